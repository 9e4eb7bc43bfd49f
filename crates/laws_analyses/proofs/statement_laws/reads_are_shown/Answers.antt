use Rattle.laws_analyses.proofs.Regions.StatementLaws.{reads_are_shown}
use Rattle.laws_analyses.proofs.statement_laws.reads_are_shown.Goals as goal

pub returns : goal.returns
returns c = reads_are_shown
