use Rattle.laws_interleavings.proofs.Plans.Fine.{fine_meanings}
use Rattle.laws_interleavings.proofs.plan_laws.plans_are_fine.Goals as goal

pub returns : goal.returns
returns c = λ rs tagged turns marks free own x k. fine_meanings free own turns marks rs tagged x k
