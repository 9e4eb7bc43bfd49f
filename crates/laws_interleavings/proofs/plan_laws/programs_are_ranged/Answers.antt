use Rattle.laws_interleavings.proofs.Plans.Ranges.{program_ranged}
use Rattle.laws_interleavings.proofs.plan_laws.programs_are_ranged.Goals as goal

pub returns : goal.returns
returns c = program_ranged
