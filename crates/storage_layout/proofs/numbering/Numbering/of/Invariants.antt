use Rattle.std.proofs.Common.{◌≡◌, drop, map}
use Rattle.std.proofs.Common.{[]}
use Rattle.f77_names.specs.Entries.{entry_tree}
use Rattle.storage_layout.specs.Groups.{groups_from}
use Rattle.storage_layout.proofs.numbering.Numbering.of.Given as goal

abbrev pub invariant-loop-place : goal.invariant-loop-place
invariant-loop-place l =
    groups_from l.place (map entry_tree (drop l.place l.entries)) l.offset_nodes l.numbering ≡ groups_from 0 (map entry_tree l.entries) l.offset_nodes []
