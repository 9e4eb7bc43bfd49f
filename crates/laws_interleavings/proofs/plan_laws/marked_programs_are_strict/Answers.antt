use Rattle.laws_interleavings.proofs.Plans.MarkedStrict.{strict}
use Rattle.laws_interleavings.proofs.plan_laws.marked_programs_are_strict.Goals as goal

pub returns : goal.returns
returns c = strict
