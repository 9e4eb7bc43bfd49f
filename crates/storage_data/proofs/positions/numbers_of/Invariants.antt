use Rattle.std.proofs.Common.{◌≡◌, drop}
use Rattle.f77_ast.specs.Plain.{expr_trees}
use Rattle.f77_names.specs.Views.{table_tree}
use Rattle.storage_data.specs.Items.{numbers_of}
use Rattle.storage_data.proofs.NumberLaws.{behind}
use Rattle.storage_data.proofs.positions.numbers_of.Given as goal

abbrev pub invariant-loop-e : goal.invariant-loop-e
invariant-loop-e l =
    behind l.numbers (numbers_of (table_tree l.table) (expr_trees (drop l.e-index l.e-items))) ≡ numbers_of (table_tree l.table) (expr_trees l.e-items)
