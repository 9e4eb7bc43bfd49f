use Rattle.laws_programs.proofs.Storage.CellLaws.{cells_have_places}
use Rattle.laws_programs.proofs.cells.cells_have_places.Goals as goal

pub returns : goal.returns
returns c = cells_have_places
