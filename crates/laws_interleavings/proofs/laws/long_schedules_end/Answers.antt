use Rattle.laws_interleavings.proofs.Agree.{long_enough}
use Rattle.laws_interleavings.proofs.laws.long_schedules_end.Goals as goal

pub returns : goal.returns
returns c = long_enough
