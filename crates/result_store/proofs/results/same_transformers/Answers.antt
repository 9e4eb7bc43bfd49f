use Rattle.result_store.proofs.ResultLaws.{transformers_same}
use Rattle.result_store.proofs.results.same_transformers.Goals as goal

pub returns : goal.returns
returns c = transformers_same c.eq.result c.args.t.now c.args.u.now c.eq.ensures
