use Rattle.std.proofs.Common.{◌≡◌, length, ◌++◌}
use Rattle.region_sets.specs.Naming.{named_cells}
use Rattle.region_sets.proofs.naming.named_cells.Given as goal

abbrev pub invariant-loop-rest : goal.invariant-loop-rest
invariant-loop-rest l = l.out.items ++ named_cells l.rest l.s ≡ named_cells l.fn.cells l.s

abbrev pub decreases-loop-rest : goal.decreases-loop-rest
decreases-loop-rest l = length l.rest
