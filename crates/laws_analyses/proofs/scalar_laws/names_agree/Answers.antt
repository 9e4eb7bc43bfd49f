use Rattle.laws_analyses.proofs.AgreeLaws.{names_agree}
use Rattle.laws_analyses.proofs.scalar_laws.names_agree.Goals as goal

pub returns : goal.returns
returns c = names_agree c.logicals_are_truths.ensures
