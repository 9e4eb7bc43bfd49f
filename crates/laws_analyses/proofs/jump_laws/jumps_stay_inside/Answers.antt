use Rattle.laws_analyses.proofs.WholeJumps.{jumps_stay_inside}
use Rattle.laws_analyses.proofs.jump_laws.jumps_stay_inside.Goals as goal

pub returns : goal.returns
returns c = jumps_stay_inside
