use Rattle.laws_interleavings.proofs.Agree.{agree}
use Rattle.laws_interleavings.proofs.laws.marked_runs_agree.Goals as goal

pub returns : goal.returns
returns c = agree
