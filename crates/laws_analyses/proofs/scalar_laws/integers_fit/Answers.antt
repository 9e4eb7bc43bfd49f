use Rattle.laws_analyses.proofs.IntegerLaws.{integers_fit}
use Rattle.laws_analyses.proofs.scalar_laws.integers_fit.Goals as goal

pub returns : goal.returns
returns c = integers_fit
