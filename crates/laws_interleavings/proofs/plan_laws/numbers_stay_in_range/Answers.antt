use Rattle.laws_interleavings.proofs.Plans.Ranges.{numbers_in_range}
use Rattle.laws_interleavings.proofs.plan_laws.numbers_stay_in_range.Goals as goal

pub returns : goal.returns
returns c = λ p turns input h k l. numbers_in_range p turns input h k l
