use Rattle.laws_analyses.proofs.Statements.Evaluations.{targets_lie}
use Rattle.laws_analyses.proofs.evaluation_laws.targets_lie.Goals as goal

pub returns : goal.returns
returns c = targets_lie
