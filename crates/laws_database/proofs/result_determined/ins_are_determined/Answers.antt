use Rattle.laws_database.proofs.ResultSameNeeds.{ins_are_determined}
use Rattle.laws_database.proofs.result_determined.ins_are_determined.Goals as goal

pub returns : goal.returns
returns c = ins_are_determined
