use Rattle.laws_programs.proofs.Whole.{numbers_go_up}
use Rattle.laws_programs.proofs.laws.numbers_go_up.Goals as goal

pub returns : goal.returns
returns c = numbers_go_up
