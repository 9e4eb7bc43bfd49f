-- The storage of a module: its storage groups and the blocks that it names, each with its size (ANSI X3.9-1978 §8.2, §8.3, §17.1).
use Rattle.std.specs.Prelude.{◌≡◌, ℕ, ◌+◌, ◌<◌, max, nat_eq, List, [], ◌∷◌, Option, Some, None, if◌then◌else◌, bytes_eq}
use Rattle.f77_ast.specs.declared.symbol.Place.{Place}
use Rattle.f77_ast.specs.declared.symbol.Place.TheVariants.{Local, Dummy, Block, Constant}
use Rattle.f77_ast.specs.Symbols.{SymbolTree}
use Rattle.f77_ast.specs.Units.{units_in}
use Rattle.f77_ast.specs.Shared.{OneUnit, group_unit, block_unit, HasUnit, symbol_at}

-- a storage group, or a block
pub data Storage : Type 0 where
  group_storage : ℕ → Storage
  block_storage : List ℕ → Storage

-- where a unit lies
abbrev pub storage_of : OneUnit → Storage
storage_of (group_unit g k) = group_storage g
storage_of (block_unit b k) = block_storage b

-- how many units come before it there
abbrev pub offset_of : OneUnit → ℕ
offset_of (group_unit g k) = k
offset_of (block_unit b k) = k

-- the storage that a place lies in; dummies and constants have none of their own
abbrev pub place_storage : Place → Option Storage
place_storage (Local g o) = Some (group_storage g)
place_storage (Dummy n) = None
place_storage (Block b o) = Some (block_storage b)
place_storage (Constant n) = None

-- ---- sizes

-- how far so many units from a place on reach in a storage; 0 where the place lies elsewhere
abbrev pub end_in : Storage → Place → ℕ → ℕ
end_in (group_storage g) (Local h o) n = if nat_eq g h then o + n else 0
end_in (group_storage g) (Dummy m) n = 0
end_in (group_storage g) (Block b o) n = 0
end_in (group_storage g) (Constant m) n = 0
end_in (block_storage b) (Local h o) n = 0
end_in (block_storage b) (Dummy m) n = 0
end_in (block_storage b) (Block c o) n = if bytes_eq b c then o + n else 0
end_in (block_storage b) (Constant m) n = 0

-- how far the last one of these symbols reaches, of a table with those symbols
abbrev pub reached : List SymbolTree → Storage → List SymbolTree → ℕ
reached ss z [] = 0
reached ss z (s ∷ others) = max (end_in z s.place (units_in ss s)) (reached ss z others)

-- the units of a storage, as the module sees it
abbrev pub size_of : List SymbolTree → Storage → ℕ
size_of ss z = reached ss z ss

-- ---- what is said of them

-- a unit of a symbol lies in the symbol's storage, below its size
pub record LiesWithin (ss : List SymbolTree) (s : SymbolTree) (u : OneUnit) : Type 0 where
  pub there : place_storage s.place ≡ Some (storage_of u)
  pub below : offset_of u < size_of ss (storage_of u)

abbrev pub UnitsLieWithin : Type 0
UnitsLieWithin = (ss : List SymbolTree) (n : ℕ) (s : SymbolTree) (u : OneUnit) → symbol_at ss n ≡ Some s → HasUnit ss s u → LiesWithin ss s u

-- symbols of two storages have no unit in common
abbrev pub UnitsAreApart : Type 0
UnitsAreApart = (ss : List SymbolTree) (a b : SymbolTree) (u : OneUnit) → (place_storage a.place ≡ place_storage b.place → ⊥) → HasUnit ss a u → HasUnit ss b u → ⊥

-- a storage that has units ends where some symbol ends
abbrev pub SizesAreReached : Type 0
SizesAreReached = (ss : List SymbolTree) (z : Storage) → 0 < size_of ss z → (n : ℕ) × (s : SymbolTree) × (symbol_at ss n ≡ Some s) × (end_in z s.place (units_in ss s) ≡ size_of ss z)
