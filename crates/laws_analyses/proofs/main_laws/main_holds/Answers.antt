use Rattle.laws_analyses.proofs.Statements.Mains.{main_holds}
use Rattle.laws_analyses.proofs.main_laws.main_holds.Goals as goal

pub returns : goal.returns
returns c = main_holds
