use Rattle.laws_database.proofs.Going.{nothing_stands}
use Rattle.laws_database.proofs.nothing_stands.Goals as goal

pub returns : goal.returns
returns c = nothing_stands
