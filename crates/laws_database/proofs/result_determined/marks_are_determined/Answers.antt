use Rattle.laws_database.proofs.ResultSameNeeds.{marks_are_determined}
use Rattle.laws_database.proofs.result_determined.marks_are_determined.Goals as goal

pub returns : goal.returns
returns c = marks_are_determined
