use Rattle.std.proofs.Common.{◌≡◌, take, map}
use Rattle.f77_ast.specs.Plain.{expr_tree}
use Rattle.f77_ast.proofs.copy.+copy_expr.Given as goal

abbrev pub invariant-copy_exprs-loop-e : goal.invariant-copy_exprs-loop-e
invariant-copy_exprs-loop-e l = map expr_tree l.copies ≡ map expr_tree (take l.e-index l.e-items)
