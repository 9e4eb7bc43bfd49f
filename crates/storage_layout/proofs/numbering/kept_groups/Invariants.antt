use Rattle.std.proofs.Common.{◌≡◌, drop, map}
use Rattle.std.proofs.Common.{ℕ, nat_eq}
use Rattle.std.specs.Prelude.{◌||◌, is_some}
use Rattle.std.specs.HashMap.{get}
use Rattle.f77_names.specs.Entries.{entry_tree}
use Rattle.storage_layout.specs.Groups.{some_keeps}
use Rattle.storage_layout.proofs.numbering.kept_groups.Given as goal

abbrev pub invariant-loop-place : goal.invariant-loop-place
invariant-loop-place l =
    (h : ℕ) → (is_some (get nat_eq l.kept h) || some_keeps h l.place (map entry_tree (drop l.place l.entries)) l.offset_nodes) ≡ some_keeps h 0 (map entry_tree l.entries) l.offset_nodes
