use Rattle.laws_database.proofs.Going.{given_may_be_kept}
use Rattle.laws_database.proofs.given_may_be_kept.Goals as goal

pub returns : goal.returns
returns c = given_may_be_kept
