-- Which variables stand at a unit. A unit is given by a place that begins at it.
use Rattle.std.specs.Prelude.{ℕ, ◌+◌, Bool, true, false, not, ◌&&◌, ◌||◌, nat_eq, nat_lt, nat_le, List, [], ◌∷◌, is_none, if◌then◌else◌, bytes_eq}
use Rattle.std.specs.List.{list_any}
use Rattle.f77_ast.specs.declared.decl.Scalar.{Scalar}
use Rattle.f77_ast.specs.declared.decl.Scalar.TheVariants.{Int, Log}
use Rattle.f77_ast.specs.declared.symbol.Place.{Place}
use Rattle.f77_ast.specs.declared.symbol.Place.TheVariants.{Local, Dummy, Block, Constant}
use Rattle.f77_ast.specs.Symbols.{BoundTree, SymbolTree, number_from}
use Rattle.f77_ast.specs.Units.{units_in}

-- ---- variables

abbrev pub is_int : Scalar → Bool
is_int Int = true
is_int Log = false

abbrev pub has_bounds : List BoundTree → Bool
has_bounds [] = false
has_bounds (b ∷ bs) = true

abbrev pub is_int_scalar : SymbolTree → Bool
is_int_scalar s = is_int s.scalar && not (has_bounds s.bounds)

-- an INTEGER scalar that is none of these names
abbrev pub is_plain : List (List ℕ) → SymbolTree → Bool
is_plain names s = is_int_scalar s && is_none (number_from 0 names s.name)

-- ---- variables at a unit

-- so many units from an offset on have this one among them
abbrev pub reaches : ℕ → ℕ → ℕ → Bool
reaches o n k = nat_le o k && nat_lt k (o + n)

-- so many units of a storage group, from an offset on, have the one at which a place begins
abbrev pub group_has : ℕ → ℕ → ℕ → Place → Bool
group_has g o n (Local h k) = nat_eq g h && reaches o n k
group_has g o n (Dummy m) = false
group_has g o n (Block y k) = false
group_has g o n (Constant m) = false

-- the same of a block
abbrev pub block_has : List ℕ → ℕ → ℕ → Place → Bool
block_has x o n (Local h k) = false
block_has x o n (Dummy m) = false
block_has x o n (Block y k) = bytes_eq x y && reaches o n k
block_has x o n (Constant m) = false

-- so many units from a place on have the one at which another begins; dummies and constants have no unit of their own
abbrev pub place_has : Place → ℕ → Place → Bool
place_has (Local g o) n at = group_has g o n at
place_has (Dummy m) n at = false
place_has (Block x o) n at = block_has x o n at
place_has (Constant m) n at = false

-- a variable of a table has a unit
abbrev pub stands_at : List SymbolTree → Place → SymbolTree → Bool
stands_at ss at s = place_has s.place (units_in ss s) at

-- a variable has a unit and is no INTEGER scalar, or is one of these names
abbrev pub untracks_at : List (List ℕ) → List SymbolTree → Place → SymbolTree → Bool
untracks_at names ss at s = stands_at ss at s && not (is_plain names s)

-- two of these are at the unit
abbrev pub two_at : List SymbolTree → Place → List SymbolTree → Bool
two_at ss at [] = false
two_at ss at (s ∷ rest) = if stands_at ss at s then list_any (stands_at ss at) rest else two_at ss at rest

-- a module with these names in its EQUIVALENCEs has at a unit a variable that is no INTEGER scalar or is one of them, or two
-- variables
abbrev pub untracks : List (List ℕ) → List SymbolTree → Place → Bool
untracks names ss at = list_any (untracks_at names ss at) ss || two_at ss at ss
