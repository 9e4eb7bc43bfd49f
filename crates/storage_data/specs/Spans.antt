-- How far a group reaches: no farther than its variables would one behind the other.
use Rattle.std.specs.Prelude.{◌≡◌, ℕ, ◌+◌, true, ◌≤◌, ℤ, pos, ◌+ℤ◌, ◌≤ℤ◌, List, [], ◌∷◌, slice_get, Some, if◌then◌else◌}
use Rattle.storage_data.specs.declared.offset_node.Home.{Home}
use Rattle.storage_data.specs.declared.offset_node.OffsetNode.{OffsetNode}
use Rattle.storage_data.specs.OffsetNodes.{same_home, is_block, joined}

-- the units of the variables that lie in a group, of those from a number on; a variable has as many as `units` says
abbrev pub units_from : (ℕ → ℕ) → ℕ → Home → List OffsetNode → ℕ
units_from units n h [] = 0
units_from units n h (s ∷ ss) = (if same_home s.home h then units n else 0) + units_from units (n + 1) h ss

-- the variables of a group lie in a stretch that is no longer than all of them together; that of a block begins at the block's unit 0 or before it
pub record Reaches (units : ℕ → ℕ) (ss : List OffsetNode) (h : Home) : Type 0 where
  pub low : ℤ
  pub begin : is_block h ≡ true → low ≤ℤ pos 0
  pub lie : (n : ℕ) (s : OffsetNode) → slice_get ss n ≡ Some s → same_home s.home h ≡ true → (low ≤ℤ s.offset) × ((s.offset +ℤ pos (units n)) ≤ℤ (low +ℤ pos (units_from units 0 h ss)))

abbrev pub AreCompact : (ℕ → ℕ) → List OffsetNode → Type 0
AreCompact units ss = (h : Home) → Reaches units ss h

-- a join of units that are of their variables, or the first behind them, leaves groups so
abbrev pub JoinsKeepCompact : Type 0
JoinsKeepCompact = (units : ℕ → ℕ) (ss : List OffsetNode) (m p n q : ℕ) → p ≤ units m → q ≤ units n → AreCompact units ss → AreCompact units (joined ss m (pos p) n (pos q)).offset_nodes
