use Rattle.laws_programs.proofs.Storage.CellLaws.{cells_are_scalars}
use Rattle.laws_programs.proofs.cells.cells_are_scalars.Goals as goal

pub returns : goal.returns
returns c = cells_are_scalars
