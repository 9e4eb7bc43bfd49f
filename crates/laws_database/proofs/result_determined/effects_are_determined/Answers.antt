use Rattle.laws_database.proofs.ResultSameNeeds.{effects_are_determined}
use Rattle.laws_database.proofs.result_determined.effects_are_determined.Goals as goal

pub returns : goal.returns
returns c = effects_are_determined
