use Rattle.std.proofs.Common.{◌≡◌, length}
use Rattle.region_sets.specs.Naming.{has_none, named_cells}
use Rattle.region_sets.proofs.moving.names_one.Given as goal

abbrev pub invariant-loop-rest : goal.invariant-loop-rest
invariant-loop-rest l = has_none (named_cells l.rest l.s) ≡ has_none (named_cells l.fn.cells l.s)

abbrev pub decreases-loop-rest : goal.decreases-loop-rest
decreases-loop-rest l = length l.rest
