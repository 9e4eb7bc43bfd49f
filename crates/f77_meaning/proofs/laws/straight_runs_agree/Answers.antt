use Rattle.f77_meaning.proofs.StraightProgram.{straight_runs_agree}
use Rattle.f77_meaning.proofs.laws.straight_runs_agree.Goals as goal

pub returns : goal.returns
returns c = straight_runs_agree
