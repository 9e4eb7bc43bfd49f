use Rattle.std.proofs.Common.{◌≡◌, ◌+◌, ◌++◌, drop}
use Rattle.hull_projection.specs.Closure.{step_rows}
use Rattle.hull_projection.proofs.iterations.push_steps.Given as goal

abbrev pub invariant-loop-i : goal.invariant-loop-i
invariant-loop-i l = l.out.items ++ step_rows (l.first + l.i) (drop l.i l.cells) ≡ l.fn.out.items ++ step_rows l.fn.first l.fn.cells
