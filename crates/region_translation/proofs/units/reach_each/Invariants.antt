use Rattle.std.proofs.Common.{◌≡◌, length}
use Rattle.region_translation.specs.Units.{reach_each}
use Rattle.region_translation.proofs.units.reach_each.Given as goal

abbrev pub invariant-loop-rest : goal.invariant-loop-rest
invariant-loop-rest l = reach_each l.rest l.units l.at ≡ reach_each l.units l.units l.fn.at

abbrev pub decreases-loop-rest : goal.decreases-loop-rest
decreases-loop-rest l = length l.rest
