use Rattle.laws_database.proofs.ResultSameNeeds.{outs_are_determined}
use Rattle.laws_database.proofs.result_determined.outs_are_determined.Goals as goal

pub returns : goal.returns
returns c = outs_are_determined
