use Rattle.laws_interleavings.proofs.Plans.Cleared.{cleared_body}
use Rattle.laws_interleavings.proofs.plan_laws.lists_leave_units_cleared.Goals as goal

pub returns : goal.returns
returns c = λ sc u callee well at ok ss locked off. cleared_body u sc callee well at ok ss locked off
