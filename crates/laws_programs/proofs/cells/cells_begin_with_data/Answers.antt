use Rattle.laws_programs.proofs.Storage.BeginLaws.{cells_begin_with_data}
use Rattle.laws_programs.proofs.cells.cells_begin_with_data.Goals as goal

pub returns : goal.returns
returns c = cells_begin_with_data
