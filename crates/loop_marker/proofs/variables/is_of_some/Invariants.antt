use Rattle.std.proofs.Common.{◌≡◌, length}
use Rattle.loop_marker.specs.Variables.{is_of_some}
use Rattle.loop_marker.proofs.variables.is_of_some.Given as goal

abbrev pub invariant-loop-rest : goal.invariant-loop-rest
invariant-loop-rest l = is_of_some l.v l.rest ≡ is_of_some l.v l.regions

abbrev pub decreases-loop-rest : goal.decreases-loop-rest
decreases-loop-rest l = length l.rest
