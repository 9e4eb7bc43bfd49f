use Rattle.std.proofs.Common.{◌∙◌, ap, arith}
use Rattle.f77_ast.specs.Plain.{expr_trees}
use Rattle.same_values.specs.Tests.{exprs_test}
use Rattle.same_values.proofs.TestLaws.{exprs_over}
use Rattle.same_values.proofs.exprs.+expr_test.Goals as goal

pub exprs_test-returns : goal.exprs_test-returns
exprs_test-returns t c =
    c.is_empty.ensures
    ∙ exprs_over c.as_slice-a-items.result.now c.args.ds.now c.loop-a.right.now c.loop-a.a-index (omega arith) c.loop-a.invariant
    ∙ ap (λ z. exprs_test (expr_trees z) (expr_trees c.args.ds.now)) c.as_slice-a-items.ensures
