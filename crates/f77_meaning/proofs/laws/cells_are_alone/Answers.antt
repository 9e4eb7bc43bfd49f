use Rattle.f77_meaning.proofs.CellLaws.{cells_are_alone}
use Rattle.f77_meaning.proofs.laws.cells_are_alone.Goals as goal

pub returns : goal.returns
returns c = cells_are_alone
