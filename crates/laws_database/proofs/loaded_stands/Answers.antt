use Rattle.laws_database.proofs.Going.{loaded_stands}
use Rattle.laws_database.proofs.loaded_stands.Goals as goal

pub returns : goal.returns
returns c = loaded_stands
