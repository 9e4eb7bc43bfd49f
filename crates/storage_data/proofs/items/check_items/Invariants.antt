use Rattle.std.proofs.Common.{◌≡◌, drop, map}
use Rattle.f77_ast.specs.Plain.{expr_tree}
use Rattle.f77_names.specs.Views.{table_tree}
use Rattle.storage_data.specs.Items.{check_items}
use Rattle.storage_data.proofs.items.check_items.Given as goal

abbrev pub invariant-loop-item : goal.invariant-loop-item
invariant-loop-item l =
    check_items (table_tree l.table) (map expr_tree (drop l.item-index l.items)) l.line l.found ≡ check_items (table_tree l.table) (map expr_tree l.items) l.line l.initial.found
