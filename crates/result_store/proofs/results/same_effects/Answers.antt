use Rattle.result_store.proofs.ResultLaws.{effects_same}
use Rattle.result_store.proofs.results.same_effects.Goals as goal

pub returns : goal.returns
returns c = effects_same c.eq.result c.args.a.now c.args.b.now c.eq.ensures
