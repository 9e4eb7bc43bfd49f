use Rattle.laws_programs.proofs.Whole.{numbers_stand_once}
use Rattle.laws_programs.proofs.laws.numbers_stand_once.Goals as goal

pub returns : goal.returns
returns c = numbers_stand_once
