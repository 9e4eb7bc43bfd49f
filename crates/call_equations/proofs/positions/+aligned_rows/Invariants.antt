use Rattle.std.proofs.Common.{length}
use Rattle.call_equations.proofs.positions.+aligned_rows.Given as goal

abbrev pub decreases-aligned_rows : goal.decreases-aligned_rows
decreases-aligned_rows l = length l.actual.now
