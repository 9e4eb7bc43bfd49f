-- What the lowest offset of a group is, and what a join does to blocks and to units.
use Rattle.std.specs.Prelude.{◌≡◌, ℕ, true, false, ℤ, ◌+ℤ◌, ◌≤ℤ◌, List, slice_get, Some, ◌⊎◌}
use Rattle.storage_data.specs.declared.offset_node.OffsetNode.{OffsetNode}
use Rattle.storage_data.specs.OffsetNodes.{same_home, is_block, joined, lowest}

-- ---- lowest offsets

-- no variable of a group begins before it
abbrev pub LowestIsLeast : Type 0
LowestIsLeast = (ss : List OffsetNode) (n : ℕ) (s : OffsetNode) → slice_get ss n ≡ Some s → lowest ss s.home ≤ℤ s.offset

-- some variable of the group begins there
abbrev pub LowestIsReached : Type 0
LowestIsReached = (ss : List OffsetNode) (n : ℕ) (s : OffsetNode) → slice_get ss n ≡ Some s →
    (m : ℕ) × (t : OffsetNode) × (slice_get ss m ≡ Some t) × (same_home t.home s.home ≡ true) × (t.offset ≡ lowest ss s.home)

-- ---- joins and blocks

-- a variable that lies in a block stays where it is
abbrev pub BlocksStay : Type 0
BlocksStay = (ss : List OffsetNode) (m : ℕ) (p : ℤ) (n : ℕ) (q : ℤ) (k : ℕ) (s : OffsetNode) → slice_get ss k ≡ Some s → is_block s.home ≡ true →
    slice_get (joined ss m p n q).offset_nodes k ≡ Some s

-- one of two variables lies in the group of this offset node
abbrev pub OneLiesWith : List OffsetNode → ℕ → ℕ → OffsetNode → Type 0
OneLiesWith ss m n s = (j : ℕ) × (r : OffsetNode) × ((j ≡ m) ⊎ (j ≡ n)) × (slice_get ss j ≡ Some r) × (same_home r.home s.home ≡ true)

-- a variable that lies in a block behind a join lay there before, or one of the two that are joined lies in that block
abbrev pub BlocksTakeGroups : Type 0
BlocksTakeGroups = (ss : List OffsetNode) (m : ℕ) (p : ℤ) (n : ℕ) (q : ℤ) (k : ℕ) (s : OffsetNode) → slice_get (joined ss m p n q).offset_nodes k ≡ Some s → is_block s.home ≡ true →
    (slice_get ss k ≡ Some s) ⊎ OneLiesWith (joined ss m p n q).offset_nodes m n s

-- ---- joins and units

-- unit p of one variable is unit q of another: they lie in one group, as far from its unit 0
pub record Coincide (ss : List OffsetNode) (m : ℕ) (p : ℤ) (n : ℕ) (q : ℤ) : Type 0 where
  pub first : OffsetNode
  pub second : OffsetNode
  pub is_first : slice_get ss m ≡ Some first
  pub is_second : slice_get ss n ≡ Some second
  pub home : first.home ≡ second.home
  pub unit : first.offset +ℤ p ≡ second.offset +ℤ q

-- units that are joined without a clash are one
abbrev pub JoinedUnitsCoincide : Type 0
JoinedUnitsCoincide = (ss : List OffsetNode) (m : ℕ) (p : ℤ) (n : ℕ) (q : ℤ) (a b : OffsetNode) → slice_get ss m ≡ Some a → slice_get ss n ≡ Some b → (joined ss m p n q).clash ≡ false → Coincide (joined ss m p n q).offset_nodes m p n q

-- units that are one stay one, whatever is joined
abbrev pub CoincidentUnitsStay : Type 0
CoincidentUnitsStay = (ss : List OffsetNode) (i : ℕ) (r : ℤ) (j : ℕ) (s : ℤ) (m : ℕ) (p : ℤ) (n : ℕ) (q : ℤ) → Coincide ss m p n q → Coincide (joined ss i r j s).offset_nodes m p n q
