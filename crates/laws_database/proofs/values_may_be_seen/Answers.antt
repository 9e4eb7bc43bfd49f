use Rattle.laws_database.proofs.Going.{values_may_be_seen}
use Rattle.laws_database.proofs.values_may_be_seen.Goals as goal

pub returns : goal.returns
returns c = values_may_be_seen
