use Rattle.std.proofs.Common.{◌≡◌, drop}
use Rattle.f77_ast.specs.PlainStmt.{stmt_trees, arm_trees}
use Rattle.same_values.specs.StmtTests.{arms_test, stmts_test}
use Rattle.same_values.proofs.stmts.+stmt_test.Given as goal

abbrev pub invariant-arms_test-loop-a : goal.invariant-arms_test-loop-a
invariant-arms_test-loop-a l = arms_test (arm_trees (drop l.a-index l.a-items)) (arm_trees l.right) ≡ arms_test (arm_trees l.a-items) (arm_trees l.others)

abbrev pub invariant-stmts_test-loop-a : goal.invariant-stmts_test-loop-a
invariant-stmts_test-loop-a l = stmts_test (stmt_trees (drop l.a-index l.a-items)) (stmt_trees l.right) ≡ stmts_test (stmt_trees l.a-items) (stmt_trees l.others)
