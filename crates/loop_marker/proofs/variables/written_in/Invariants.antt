use Rattle.std.proofs.Common.{◌≡◌, ◌++◌, length}
use Rattle.loop_marker.specs.Variables.{written_in}
use Rattle.loop_marker.proofs.variables.written_in.Given as goal

abbrev pub invariant-loop-rest : goal.invariant-loop-rest
invariant-loop-rest l = l.made ++ written_in l.rest ≡ written_in l.regions

abbrev pub decreases-loop-rest : goal.decreases-loop-rest
decreases-loop-rest l = length l.rest
