use Rattle.laws_marks.proofs.Typed.{calls_end}
use Rattle.laws_marks.proofs.inactive_units.calls_end.Goals as goal

pub returns : goal.returns
returns c = calls_end c.jumps_stay_inside.ensures
