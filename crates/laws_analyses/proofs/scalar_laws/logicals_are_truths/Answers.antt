use Rattle.laws_analyses.proofs.LogicalLaws.{logicals_are_truths}
use Rattle.laws_analyses.proofs.scalar_laws.logicals_are_truths.Goals as goal

pub returns : goal.returns
returns c = logicals_are_truths
