use Rattle.laws_database.proofs.AtLines.{lines_may_change}
use Rattle.laws_database.proofs.lines_may_change.Goals as goal

pub returns : goal.returns
returns c = lines_may_change
