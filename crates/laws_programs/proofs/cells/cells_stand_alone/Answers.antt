use Rattle.laws_programs.proofs.Storage.CellLaws.{cells_stand_alone}
use Rattle.laws_programs.proofs.cells.cells_stand_alone.Goals as goal

pub returns : goal.returns
returns c = cells_stand_alone
