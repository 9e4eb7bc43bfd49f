use Rattle.laws_interleavings.proofs.Plans.TouchedRuns.{modules_avoid}
use Rattle.laws_interleavings.proofs.plan_laws.modules_avoid.Goals as goal

pub returns : goal.returns
returns c = λ rs turns v z h x. modules_avoid rs turns v z h x
