use Rattle.std.proofs.Common.{◌≡◌, length}
use Rattle.call_equations.specs.Sides.{changed_by, changed_cells}
use Rattle.call_equations.proofs.sides.changed_cells.Given as goal

abbrev pub invariant-loop-rest : goal.invariant-loop-rest
invariant-loop-rest l = changed_by l.cells l.rest ≡ changed_cells l.own.at

abbrev pub decreases-loop-rest : goal.decreases-loop-rest
decreases-loop-rest l = length l.rest
