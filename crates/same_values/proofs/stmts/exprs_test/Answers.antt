use Rattle.f77_ast.specs.Plain.{expr_trees}
use Rattle.same_values.specs.Tests.{exprs_test}
use Rattle.same_values.proofs.TestLaws.{exprs_decides}
use Rattle.same_values.proofs.StmtLaws.{agree}
use Rattle.same_values.proofs.stmts.exprs_test.Goals as goal

pub returns : goal.returns
returns c =
    let es = expr_trees c.args.es.now in
    let ds = expr_trees c.args.ds.now in
    agree c.same_exprs.result (exprs_test es ds) c.same_exprs.ensures (exprs_decides es ds)
