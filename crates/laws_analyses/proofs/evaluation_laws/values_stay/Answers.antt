use Rattle.laws_analyses.proofs.Statements.Evaluations.{values_stay}
use Rattle.laws_analyses.proofs.evaluation_laws.values_stay.Goals as goal

pub returns : goal.returns
returns c = values_stay
