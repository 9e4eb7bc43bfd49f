use Rattle.laws_interleavings.proofs.Plans.Uses.{serve}
use Rattle.laws_interleavings.proofs.plan_laws.fine_plans_serve.Goals as goal

pub returns : goal.returns
returns c = serve
