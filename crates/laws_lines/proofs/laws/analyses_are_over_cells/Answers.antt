use Rattle.laws_lines.proofs.PhaseVars.{analyses_are_over_cells}
use Rattle.laws_lines.proofs.laws.analyses_are_over_cells.Goals as goal

pub returns : goal.returns
returns c = analyses_are_over_cells
