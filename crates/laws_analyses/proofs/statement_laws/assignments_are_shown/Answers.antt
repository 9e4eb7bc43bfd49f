use Rattle.laws_analyses.proofs.Regions.StatementLaws.{assignments_are_shown}
use Rattle.laws_analyses.proofs.statement_laws.assignments_are_shown.Goals as goal

pub returns : goal.returns
returns c = assignments_are_shown
