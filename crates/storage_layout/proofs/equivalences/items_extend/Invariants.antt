use Rattle.std.proofs.Common.{◌≡◌, drop, map}
use Rattle.f77_ast.specs.Plain.{expr_tree}
use Rattle.f77_names.specs.Views.{table_tree}
use Rattle.storage_layout.specs.Equivalences.{items_extend}
use Rattle.storage_layout.proofs.equivalences.items_extend.Given as goal

abbrev pub invariant-loop-item : goal.invariant-loop-item
invariant-loop-item l =
    items_extend (table_tree l.table) l.offset_nodes (map expr_tree (drop l.item-index l.items)) ≡ items_extend (table_tree l.table) l.offset_nodes (map expr_tree l.items)
