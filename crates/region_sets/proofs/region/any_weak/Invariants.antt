use Rattle.std.proofs.Common.{◌≡◌, length}
use Rattle.region_sets.specs.Regions.{any_weak}
use Rattle.region_sets.proofs.region.any_weak.Given as goal

abbrev pub invariant-loop-rest : goal.invariant-loop-rest
invariant-loop-rest l = any_weak l.rest ≡ any_weak l.fn.pieces

abbrev pub decreases-loop-rest : goal.decreases-loop-rest
decreases-loop-rest l = length l.rest
