use Rattle.std.proofs.Common.{◌∙◌, ap, arith}
use Rattle.f77_ast.specs.PlainStmt.{stmt_trees, arm_trees}
use Rattle.same_values.specs.StmtTests.{arms_test, stmts_test}
use Rattle.same_values.proofs.StmtLaws.{arms_over, stmts_over}
use Rattle.same_values.proofs.stmts.+stmt_test.Goals as goal

pub arms_test-returns : goal.arms_test-returns
arms_test-returns t c =
    c.is_empty.ensures
    ∙ arms_over c.as_slice-a-items.result.now c.args.others.now c.loop-a.right.now c.loop-a.a-index (omega arith) c.loop-a.invariant
    ∙ ap (λ z. arms_test (arm_trees z) (arm_trees c.args.others.now)) c.as_slice-a-items.ensures

pub stmts_test-returns : goal.stmts_test-returns
stmts_test-returns t c =
    c.is_empty.ensures
    ∙ stmts_over c.as_slice-a-items.result.now c.args.others.now c.loop-a.right.now c.loop-a.a-index (omega arith) c.loop-a.invariant
    ∙ ap (λ z. stmts_test (stmt_trees z) (stmt_trees c.args.others.now)) c.as_slice-a-items.ensures
