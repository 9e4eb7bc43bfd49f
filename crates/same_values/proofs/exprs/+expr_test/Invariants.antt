use Rattle.std.proofs.Common.{◌≡◌, drop}
use Rattle.f77_ast.specs.Plain.{expr_trees}
use Rattle.same_values.specs.Tests.{exprs_test}
use Rattle.same_values.proofs.exprs.+expr_test.Given as goal

abbrev pub invariant-exprs_test-loop-a : goal.invariant-exprs_test-loop-a
invariant-exprs_test-loop-a l = exprs_test (expr_trees (drop l.a-index l.a-items)) (expr_trees l.right) ≡ exprs_test (expr_trees l.a-items) (expr_trees l.ds)
