use Rattle.result_store.proofs.ResultLaws.{marks_same}
use Rattle.result_store.proofs.results.same_marks.Goals as goal

pub returns : goal.returns
returns c = marks_same c.eq.result c.args.m.now c.args.n.now c.eq.ensures
