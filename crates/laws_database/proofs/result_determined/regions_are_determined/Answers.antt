use Rattle.laws_database.proofs.ResultSameNeeds.{regions_are_determined}
use Rattle.laws_database.proofs.result_determined.regions_are_determined.Goals as goal

pub returns : goal.returns
returns c = regions_are_determined
