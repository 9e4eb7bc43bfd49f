use Rattle.laws_analyses.proofs.Regions.StatementLaws.{logical_ifs_are_shown}
use Rattle.laws_analyses.proofs.statement_laws.logical_ifs_are_shown.Goals as goal

pub returns : goal.returns
returns c = logical_ifs_are_shown
