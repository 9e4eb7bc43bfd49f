-- The units of the variables of a module, and which variables share some (ANSI X3.9-1978 §8.2, §8.3, §17.1.3).
use Rattle.std.specs.Prelude.{◌≡◌, ℕ, ◌+◌, ◌-◌, ◌<◌, min, max, Bool, false, not, ◌&&◌, nat_eq, nat_lt, List, slice_get, Option, Some, None, IsTrue, ◌↔◌, if◌then◌else◌, bytes_eq}
use Rattle.f77_ast.specs.declared.symbol.Place.{Place}
use Rattle.f77_ast.specs.declared.symbol.Place.TheVariants.{Local, Dummy, Block, Constant}
use Rattle.f77_ast.specs.declared.variable.Variable.{Variable}
use Rattle.f77_ast.specs.declared.variable.Variable.TheVariants as variable
use Rattle.f77_ast.specs.Symbols.{SymbolTree}
use Rattle.f77_ast.specs.Units.{units_in}

-- ---- units

-- a unit that a module sees: of a storage group of its own, or of a block, from 0
pub data OneUnit : Type 0 where
  group_unit : ℕ → ℕ → OneUnit
  block_unit : List ℕ → ℕ → OneUnit

-- the unit at a distance from the first one of a place; dummies and constants have no unit of their own
abbrev pub unit_after : Place → ℕ → Option OneUnit
unit_after (Local g o) k = Some (group_unit g (o + k))
unit_after (Dummy n) k = None
unit_after (Block b o) k = Some (block_unit b (o + k))
unit_after (Constant n) k = None

-- a unit of a symbol
abbrev pub HasUnit : List SymbolTree → SymbolTree → OneUnit → Type 0
HasUnit ss s u = (k : ℕ) × (k < units_in ss s) × (unit_after s.place k ≡ Some u)

-- ---- sharing

-- the offsets in the storage that both places lie in
abbrev pub if_same : Bool → ℕ → ℕ → Option (ℕ × ℕ)
if_same same x y = if same then Some (x, y) else None

abbrev pub same_storage : Place → Place → Option (ℕ × ℕ)
same_storage (Local g x) (Local h y) = if_same (nat_eq g h) x y
same_storage (Local g x) (Dummy n) = None
same_storage (Local g x) (Block c y) = None
same_storage (Local g x) (Constant n) = None
same_storage (Dummy m) q = None
same_storage (Block b x) (Local h y) = None
same_storage (Block b x) (Dummy n) = None
same_storage (Block b x) (Block c y) = if_same (bytes_eq b c) x y
same_storage (Block b x) (Constant n) = None
same_storage (Constant m) q = None

-- so many units from one offset, and so many from another, have one in common
abbrev pub meet : ℕ → ℕ → Option (ℕ × ℕ) → Bool
meet m n None = false
meet m n (Some (x, y)) = nat_lt (max x y) (min (x + m) (y + n))

abbrev pub share : List SymbolTree → SymbolTree → SymbolTree → Bool
share ss a b = meet (units_in ss a) (units_in ss b) (same_storage a.place b.place)

-- what has a number, from 1
abbrev pub numbered : {A : Type 0} → List A → ℕ → Option A
numbered xs n = if nat_eq n 0 then None else slice_get xs (n - 1)

abbrev pub symbol_at : List SymbolTree → ℕ → Option SymbolTree
symbol_at ss n = numbered ss n

abbrev pub place_of : Option SymbolTree → Option Place
place_of None = None
place_of (Some s) = Some s.place

-- the place of a symbol
abbrev pub place_at : List SymbolTree → ℕ → Option Place
place_at ss n = place_of (symbol_at ss n)

abbrev pub share_maybe : List SymbolTree → Option SymbolTree → Option SymbolTree → Bool
share_maybe ss None b = false
share_maybe ss (Some a) None = false
share_maybe ss (Some a) (Some b) = share ss a b

-- two different symbols share a unit
abbrev pub numbers_share : List SymbolTree → ℕ → ℕ → Bool
numbers_share ss m n = not (nat_eq m n) && share_maybe ss (symbol_at ss m) (symbol_at ss n)

abbrev pub is_in : List ℕ → Place → Bool
is_in block (Local g o) = false
is_in block (Dummy n) = false
is_in block (Block b o) = bytes_eq b block
is_in block (Constant n) = false

abbrev pub is_symbol_in : List ℕ → Option SymbolTree → Bool
is_symbol_in block None = false
is_symbol_in block (Some s) = is_in block s.place

-- a symbol lies in a block
abbrev pub lies_in : List SymbolTree → ℕ → List ℕ → Bool
lies_in ss n block = is_symbol_in block (symbol_at ss n)

-- two variables overlap: symbols that share a unit, a block and what lies in it, two saved variables of one other module
abbrev pub overlap : List SymbolTree → Variable → Variable → Bool
overlap ss (variable.Own m) (variable.Own n) = numbers_share ss m n
overlap ss (variable.Own m) (variable.Block c) = lies_in ss m c
overlap ss (variable.Own m) (variable.Saved x y) = false
overlap ss (variable.Block b) (variable.Own n) = lies_in ss n b
overlap ss (variable.Block b) (variable.Block c) = false
overlap ss (variable.Block b) (variable.Saved x y) = false
overlap ss (variable.Saved m x) (variable.Own n) = false
overlap ss (variable.Saved m x) (variable.Block c) = false
overlap ss (variable.Saved m x) (variable.Saved n y) = bytes_eq m n && not (bytes_eq x y)

-- ---- what sharing means

-- two symbols share just where some unit is a unit of both
abbrev pub SharingIsOfUnits : Type 0
SharingIsOfUnits = (ss : List SymbolTree) → (a b : SymbolTree) →
    IsTrue (share ss a b) ↔ ((u : OneUnit) × HasUnit ss a u × HasUnit ss b u)
