use Rattle.tracked_cells.proofs.TrackedLaws.{are_plain}
use Rattle.tracked_cells.proofs.laws.tracked_units_are_plain.Goals as goal

pub returns : goal.returns
returns c = are_plain
