use Rattle.laws_database.proofs.Going.{given_texts_may_stay}
use Rattle.laws_database.proofs.given_texts_may_stay.Goals as goal

pub returns : goal.returns
returns c = given_texts_may_stay
