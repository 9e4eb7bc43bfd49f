use Rattle.laws_database.proofs.ResultSameNeeds.{preconditions_are_determined}
use Rattle.laws_database.proofs.result_determined.preconditions_are_determined.Goals as goal

pub returns : goal.returns
returns c = preconditions_are_determined
