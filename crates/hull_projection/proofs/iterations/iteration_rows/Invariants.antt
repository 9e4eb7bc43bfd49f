use Rattle.std.proofs.Common.{◌≡◌, map, take}
use Rattle.hull_projection.specs.Closure.{many_iterations}
use Rattle.hull_projection.proofs.iterations.iteration_rows.Given as goal

abbrev pub invariant-loop-row : goal.invariant-loop-row
invariant-loop-row l = l.out.items ≡ map (many_iterations l.first l.cells) (take l.row-index l.rows)
