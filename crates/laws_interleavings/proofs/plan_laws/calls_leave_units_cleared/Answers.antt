use Rattle.laws_interleavings.proofs.Plans.Cleared.{cleared_meanings}
use Rattle.laws_interleavings.proofs.plan_laws.calls_leave_units_cleared.Goals as goal

pub returns : goal.returns
returns c = λ rs tagged turns ends u z apart x. cleared_meanings u turns z rs tagged apart ends x
