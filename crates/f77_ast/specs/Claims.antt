-- Numbers for cells. A cell is a variable of a module that is an INTEGER scalar, by the number of its symbol.
use Rattle.std.specs.Prelude.{◌≡◌, ℕ, Bool, true, ℤ}
use Rattle.f77_ast.specs.Store.{Store}
use Rattle.f77_ast.specs.Places.{Places}

-- the number in a cell's unit
abbrev pub number_in : Store → Places → ℕ → ℤ
number_in s at c = (s (at c).first).number

-- these numbers are those that the tracked cells have in the store
abbrev pub Agrees : (ℕ → Bool) → Places → Store → (ℕ → ℤ) → Type 0
Agrees tracked at s x = (c : ℕ) → tracked c ≡ true → x c ≡ number_in s at c
