-- What the names of a module stand for, as far as forms look: constants and tracked cells.
use Rattle.std.specs.Prelude.{ℕ, List, map, Option, Some, None, Bool, false, if◌then◌else◌}
use Rattle.f77_ast.specs.declared.constant.Constant.{Constant}
use Rattle.f77_ast.specs.declared.symbol.Symbol.{Symbol}
use Rattle.f77_ast.specs.Symbols.{number_from, symbol_tree, value_in}
use Rattle.f77_ast.specs.Shared.{numbered}
use Rattle.f77_ast.specs.Index.{names_of}

-- the value of a name that stands for a constant, and the number of a name that is a tracked cell
pub record Scalars : Type 0 where
  pub value : List ℕ → Option Constant
  pub cell : List ℕ → Option ℕ

abbrev pub flag_of : Option Bool → Bool
flag_of None = false
flag_of (Some b) = b

-- the flag of the symbol with a number, from 1
abbrev pub is_cell : List Bool → ℕ → Bool
is_cell flags n = flag_of (numbered flags n)

abbrev pub if_cell : List Bool → Option ℕ → Option ℕ
if_cell flags None = None
if_cell flags (Some n) = if is_cell flags n then Some n else None

abbrev pub cell_in : List (List ℕ) → List Bool → List ℕ → Option ℕ
cell_in names flags x = if_cell flags (number_from 1 names x)

-- of a module with these symbols, with a flag for each whether it is a tracked cell
abbrev pub scalars : List Symbol → List Bool → Scalars
scalars ss flags = record { value = value_in (map symbol_tree ss); cell = cell_in (names_of ss) flags }
