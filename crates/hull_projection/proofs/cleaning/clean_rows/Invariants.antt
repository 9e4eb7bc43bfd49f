use Rattle.std.proofs.Common.{vec_len}
use Rattle.hull_projection.proofs.CleanSteps.{IsCleaned}
use Rattle.hull_projection.proofs.cleaning.clean_rows.Given as goal

abbrev pub invariant-loop-row : goal.invariant-loop-row
invariant-loop-row l = IsCleaned l.front.items l.behind.items l.fn.rows

abbrev pub decreases-loop-row : goal.decreases-loop-row
decreases-loop-row l = vec_len l.front
