use Rattle.laws_database.proofs.ResultSameNeeds.{transformers_are_determined}
use Rattle.laws_database.proofs.result_determined.transformers_are_determined.Goals as goal

pub returns : goal.returns
returns c = transformers_are_determined
