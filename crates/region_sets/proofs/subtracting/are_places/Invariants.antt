use Rattle.std.proofs.Common.{◌≡◌, length}
use Rattle.region_sets.specs.Subtract.{are_places}
use Rattle.region_sets.proofs.subtracting.are_places.Given as goal

abbrev pub invariant-loop-rest : goal.invariant-loop-rest
invariant-loop-rest l = are_places l.rest ≡ are_places l.fn.systems

abbrev pub decreases-loop-rest : goal.decreases-loop-rest
decreases-loop-rest l = length l.rest
