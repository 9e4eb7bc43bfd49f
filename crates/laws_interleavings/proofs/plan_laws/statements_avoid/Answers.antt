use Rattle.laws_interleavings.proofs.Plans.TouchedRuns.{statements_avoid}
use Rattle.laws_interleavings.proofs.plan_laws.statements_avoid.Goals as goal

pub returns : goal.returns
returns c = λ sc v callee own at s locked h. statements_avoid sc v callee own at s locked h
