use Rattle.std.proofs.Common.{◌≡◌, ◌++◌, drop}
use Rattle.f77_ast.specs.Plain.{expr_trees}
use Rattle.f77_parser.specs.Standing.{exprs_names}
use Rattle.f77_parser.proofs.standing.+add_expr.Given as goal

abbrev pub invariant-add_exprs-loop-e : goal.invariant-add_exprs-loop-e
invariant-add_exprs-loop-e l = l.names ++ exprs_names (expr_trees (drop l.e-index l.e-items)) ≡ l.fn.names ++ exprs_names (expr_trees l.e-items)
