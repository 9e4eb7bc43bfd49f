use Rattle.std.proofs.Common.{◌≡◌, drop}
use Rattle.f77_ast.specs.Plain.{expr_trees}
use Rattle.f77_names.specs.Views.{table_tree}
use Rattle.f77_checks.specs.Expressions.{check_subscripts}
use Rattle.f77_checks.proofs.expressions.+check_expr.Given as goal

abbrev pub invariant-check_subscripts-loop-e : goal.invariant-check_subscripts-loop-e
invariant-check_subscripts-loop-e l =
    check_subscripts (table_tree l.table) (expr_trees (drop l.e-index l.e-items)) l.line l.found ≡ check_subscripts (table_tree l.table) (expr_trees l.e-items) l.line l.initial.found
