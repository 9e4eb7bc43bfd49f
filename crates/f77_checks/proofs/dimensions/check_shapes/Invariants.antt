use Rattle.std.proofs.Common.{◌≡◌, drop, map}
use Rattle.f77_names.specs.Entries.{entry_tree}
use Rattle.f77_names.specs.Views.{table_tree}
use Rattle.f77_checks.specs.Dimensions.{check_shapes}
use Rattle.f77_checks.proofs.dimensions.check_shapes.Given as goal

abbrev pub invariant-loop-entry : goal.invariant-loop-entry
invariant-loop-entry l =
    check_shapes (table_tree l.table) (map entry_tree (drop l.entry-index l.entry-items)) l.found ≡ check_shapes (table_tree l.table) (map entry_tree l.entry-items) l.initial.found
