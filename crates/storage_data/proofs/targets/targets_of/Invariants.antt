use Rattle.std.proofs.Common.{◌≡◌, ◌++◌, drop, map}
use Rattle.f77_ast.specs.Plain.{expr_tree}
use Rattle.f77_names.specs.Views.{table_tree}
use Rattle.storage_data.specs.Initials.{targets_of}
use Rattle.storage_data.proofs.targets.targets_of.Given as goal

abbrev pub invariant-loop-item : goal.invariant-loop-item
invariant-loop-item l =
    l.targets ++ targets_of (table_tree l.table) l.offset_nodes (map expr_tree (drop l.item-index l.items)) ≡ targets_of (table_tree l.table) l.offset_nodes (map expr_tree l.items)
