use Rattle.laws_database.proofs.Rests.{resting_stays}
use Rattle.laws_database.proofs.resting_stays.Goals as goal

pub returns : goal.returns
returns c = resting_stays
