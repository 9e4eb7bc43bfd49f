use Rattle.result_store.proofs.ResultLaws.{region_sets_same}
use Rattle.result_store.proofs.results.same_region_sets.Goals as goal

pub returns : goal.returns
returns c = region_sets_same c.eq.result c.args.r.now c.args.s.now c.eq.ensures
