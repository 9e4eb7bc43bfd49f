use Rattle.std.proofs.Common.{drop}
use Rattle.hull_projection.specs.Closure.{AreCells}
use Rattle.cases_rows.proofs.given.are_cells.Given as goal

abbrev pub invariant-loop-v : goal.invariant-loop-v
invariant-loop-v l = AreCells (drop l.v-index l.vars) → AreCells l.fn.vars
