use Rattle.std.proofs.Common.{◌≡◌, ◌++◌, drop}
use Rattle.f77_ast.specs.Plain.{expr_trees}
use Rattle.f77_printer.specs.ExprText.{items_text}
use Rattle.f77_printer.proofs.statement.write_items.Given as goal

abbrev pub invariant-loop-e : goal.invariant-loop-e
invariant-loop-e l = l.out ++ items_text (expr_trees (drop l.e-index l.e-items)) ≡ l.initial.out ++ items_text (expr_trees l.e-items)
