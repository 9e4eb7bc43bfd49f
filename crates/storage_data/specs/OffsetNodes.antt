-- Variables in groups: each lies at an offset in a group, and joining two units makes one group of two.
use Rattle.std.specs.Prelude.{◌≡◌, ℕ, zero, suc, ◌+◌, Bool, true, false, not, ◌&&◌, nat_eq, ℤ, pos, ◌+ℤ◌, ◌-ℤ◌, neg_ℤ, int_lt, List, [], ◌∷◌, map, slice_get, Option, Some, None, if◌then◌else◌, unwrap_or}
use Rattle.std.specs.Ordering.{int_eq}
use Rattle.std.specs.Int.{int_min}
use Rattle.std.specs.List.{list_any}
use Rattle.storage_data.specs.declared.offset_node.Home.{Home}
use Rattle.storage_data.specs.declared.offset_node.Home.TheVariants.{Block, Own}
use Rattle.storage_data.specs.declared.offset_node.OffsetNode.{OffsetNode}

abbrev pub same_home : Home → Home → Bool
same_home (Block a) (Block b) = nat_eq a b
same_home (Block a) (Own n) = false
same_home (Own m) (Block b) = false
same_home (Own m) (Own n) = nat_eq m n

abbrev pub is_block : Home → Bool
is_block (Block b) = true
is_block (Own n) = false

-- so many variables from number n on, each in a group of its own
abbrev pub alone_from : ℕ → ℕ → List OffsetNode
alone_from n zero = []
alone_from n (suc k) = record { home = Own n; offset = pos 0 } ∷ alone_from (n + 1) k

-- the whole group of a variable goes to another group
abbrev pub move_offset_node : Home → Home → ℤ → OffsetNode → OffsetNode
move_offset_node from to shift s = if same_home s.home from then record { home = to; offset = s.offset +ℤ shift } else s

abbrev pub all_moved : Home → Home → ℤ → List OffsetNode → List OffsetNode
all_moved from to shift ss = map (move_offset_node from to shift) ss

-- the groups behind a join, and whether it contradicts them
pub record Joined : Type 0 where
  pub offset_nodes : List OffsetNode
  pub clash : Bool

-- the second group begins at this unit of the first; a group of a block stays where it is
abbrev pub joined_at : List OffsetNode → OffsetNode → OffsetNode → ℤ → Joined
joined_at ss a b shift =
    if same_home a.home b.home then record { offset_nodes = ss; clash = not (int_eq shift (pos 0)) }
    else if is_block b.home then (
    if is_block a.home then record { offset_nodes = ss; clash = true }
    else record { offset_nodes = all_moved a.home b.home (neg_ℤ shift) ss; clash = false })
    else record { offset_nodes = all_moved b.home a.home shift ss; clash = false }

-- how far unit q of the second stands before unit p of the first
abbrev pub distance : OffsetNode → ℤ → OffsetNode → ℤ → ℤ
distance a p b q = (a.offset +ℤ p) -ℤ (b.offset +ℤ q)

abbrev pub joined_offset_nodes : List OffsetNode → Option OffsetNode → ℤ → Option OffsetNode → ℤ → Joined
joined_offset_nodes ss None p b q = record { offset_nodes = ss; clash = false }
joined_offset_nodes ss (Some a) p None q = record { offset_nodes = ss; clash = false }
joined_offset_nodes ss (Some a) p (Some b) q = joined_at ss a b (distance a p b q)

-- unit p of variable m and unit q of variable n become one
abbrev pub joined : List OffsetNode → ℕ → ℤ → ℕ → ℤ → Joined
joined ss m p n q = joined_offset_nodes ss (slice_get ss m) p (slice_get ss n) q

-- the groups and the answer of a join
pub record Yields (ss : List OffsetNode) (j : Joined) (clash : Bool) : Type 0 where
  pub offset_nodes : ss ≡ j.offset_nodes
  pub answer : clash ≡ j.clash

-- a variable of this group begins before the group's unit 0
abbrev pub begins_before : List OffsetNode → Home → Bool
begins_before ss h = list_any (λ s. same_home s.home h && int_lt s.offset (pos 0)) ss

abbrev pub lower : Option ℤ → ℤ → ℤ
lower None n = n
lower (Some m) n = int_min m n

-- the lowest offset of a group, with one more variable
abbrev pub with_low : Home → Option ℤ → OffsetNode → Option ℤ
with_low h low s = if same_home s.home h then Some (lower low s.offset) else low

abbrev pub lowest_from : Option ℤ → Home → List OffsetNode → Option ℤ
lowest_from low h [] = low
lowest_from low h (s ∷ ss) = lowest_from (with_low h low s) h ss

-- the lowest offset of a group
abbrev pub lowest : List OffsetNode → Home → ℤ
lowest ss h = unwrap_or (lowest_from None h ss) (pos 0)
