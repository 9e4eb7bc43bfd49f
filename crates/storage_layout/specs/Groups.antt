-- The storage groups of locals, by the numbers of the variables that they began with.
use Rattle.std.specs.Prelude.{ℕ, ◌+◌, Bool, false, ◌&&◌, ◌||◌, nat_eq, List, [], ◌∷◌, ◌++◌, slice_get, Option, Some, None, is_some, if◌then◌else◌}
use Rattle.f77_names.specs.Entries.{EntryTree}
use Rattle.storage_data.specs.declared.offset_node.Home.{Home}
use Rattle.storage_data.specs.declared.offset_node.Home.TheVariants.{Block, Own}
use Rattle.storage_data.specs.declared.offset_node.OffsetNode.{OffsetNode}

-- the number of a group, where the first has the number n
abbrev pub index_from : ℕ → List ℕ → ℕ → Option ℕ
index_from n [] h = None
index_from n (g ∷ gs) h = if nat_eq h g then Some n else index_from (n + 1) gs h

-- the groups, with this one
abbrev pub with_group : ℕ → List ℕ → List ℕ
with_group h gs = if is_some (index_from 1 gs h) then gs else gs ++ h ∷ []

abbrev pub with_home : Home → List ℕ → List ℕ
with_home (Block b) gs = gs
with_home (Own n) gs = with_group n gs

abbrev pub with_offset_node : Option OffsetNode → List ℕ → List ℕ
with_offset_node None gs = gs
with_offset_node (Some s) gs = with_home s.home gs

abbrev pub with_entry : EntryTree → Option OffsetNode → List ℕ → List ℕ
with_entry e s gs = if is_some e.dummy || e.parameter then gs else with_offset_node s gs

-- the groups of locals in the order of their first symbols, of which the first has the place n
abbrev pub groups_from : ℕ → List EntryTree → List OffsetNode → List ℕ → List ℕ
groups_from n [] ss gs = gs
groups_from n (e ∷ es) ss gs = groups_from (n + 1) es ss (with_entry e (slice_get ss n) gs)

-- ---- saved groups

abbrev pub is_own : ℕ → Home → Bool
is_own h (Block b) = false
is_own h (Own n) = nat_eq n h

abbrev pub sits_in : ℕ → Option OffsetNode → Bool
sits_in h None = false
sits_in h (Some s) = is_own h s.home

-- the name stands in SAVE or DATA, and its group is this one
abbrev pub keeps : ℕ → EntryTree → Option OffsetNode → Bool
keeps h e s = (e.saved || e.initial) && sits_in h s

abbrev pub some_keeps : ℕ → ℕ → List EntryTree → List OffsetNode → Bool
some_keeps h n [] ss = false
some_keeps h n (e ∷ es) ss = keeps h e (slice_get ss n) || some_keeps h (n + 1) es ss
