use Rattle.laws_analyses.proofs.Statements.Evaluations.{shown_stay}
use Rattle.laws_analyses.proofs.evaluation_laws.shown_stay.Goals as goal

pub returns : goal.returns
returns c = shown_stay
