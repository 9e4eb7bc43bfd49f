use Rattle.laws_programs.proofs.Whole.{modules_are_read}
use Rattle.laws_programs.proofs.laws.modules_are_read.Goals as goal

pub returns : goal.returns
returns c = modules_are_read
