use Rattle.std.proofs.Common.{◌≡◌, length}
use Rattle.region_translation.specs.Units.{reach}
use Rattle.region_translation.proofs.units.reach.Given as goal

abbrev pub invariant-loop-rest : goal.invariant-loop-rest
invariant-loop-rest l = reach l.rest l.at ≡ reach l.units l.fn.at

abbrev pub decreases-loop-rest : goal.decreases-loop-rest
decreases-loop-rest l = length l.rest
