use Rattle.result_store.proofs.ResultLaws.{preconditions_same}
use Rattle.result_store.proofs.results.same_preconditions.Goals as goal

pub returns : goal.returns
returns c = preconditions_same c.eq.result c.args.p.now c.args.q.now c.eq.ensures
