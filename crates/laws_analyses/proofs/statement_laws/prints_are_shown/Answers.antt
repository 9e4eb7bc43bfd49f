use Rattle.laws_analyses.proofs.Regions.StatementLaws.{prints_are_shown}
use Rattle.laws_analyses.proofs.statement_laws.prints_are_shown.Goals as goal

pub returns : goal.returns
returns c = prints_are_shown
