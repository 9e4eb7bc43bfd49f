use Rattle.laws_programs.proofs.Storage.LocalLaws.{locals_stay_inside}
use Rattle.laws_programs.proofs.cells.locals_stay_inside.Goals as goal

pub returns : goal.returns
returns c = locals_stay_inside
