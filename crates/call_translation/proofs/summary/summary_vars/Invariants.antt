use Rattle.std.proofs.Common.{◌≡◌, [], length}
use Rattle.hull_projection.specs.Variables.{with_vars}
use Rattle.call_translation.specs.Summary.{exits}
use Rattle.call_translation.proofs.summary.summary_vars.Given as goal

abbrev pub invariant-loop-rest : goal.invariant-loop-rest
invariant-loop-rest l = with_vars l.vars.items (exits l.rest) ≡ with_vars [] (exits l.t.cells)

abbrev pub decreases-loop-rest : goal.decreases-loop-rest
decreases-loop-rest l = length l.rest
