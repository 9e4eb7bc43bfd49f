use Rattle.f77_meaning.proofs.CommonCellLaws.{common_cells_are_alone}
use Rattle.f77_meaning.proofs.laws.common_cells_are_alone.Goals as goal

pub returns : goal.returns
returns c = common_cells_are_alone
