use Rattle.std.proofs.Common.{◌≡◌, drop}
use Rattle.f77_ast.specs.Plain.{expr_trees}
use Rattle.f77_names.specs.Views.{table_tree}
use Rattle.f77_checks.specs.Statements.{check_actuals}
use Rattle.f77_checks.proofs.targets.check_actuals.Given as goal

abbrev pub invariant-loop-e : goal.invariant-loop-e
invariant-loop-e l =
    check_actuals (table_tree l.table) (expr_trees (drop l.e-index l.e-items)) l.line l.found ≡ check_actuals (table_tree l.table) (expr_trees l.e-items) l.line l.initial.found
