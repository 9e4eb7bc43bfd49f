use Rattle.std.proofs.Common.{◌≡◌, map, take}
use Rattle.hull_projection.specs.Closure.{same_row}
use Rattle.hull_projection.proofs.iterations.same_rows.Given as goal

abbrev pub invariant-loop-cell : goal.invariant-loop-cell
invariant-loop-cell l = l.out.items ≡ map same_row (take l.cell-index l.cells)
