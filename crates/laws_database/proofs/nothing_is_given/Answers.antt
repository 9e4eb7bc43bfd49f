use Rattle.laws_database.proofs.Going.{nothing_is_given}
use Rattle.laws_database.proofs.nothing_is_given.Goals as goal

pub returns : goal.returns
returns c = nothing_is_given
