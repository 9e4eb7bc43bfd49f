use Rattle.std.proofs.Common.{◌≡◌, length}
use Rattle.loop_marker.specs.Variables.{is_among}
use Rattle.loop_marker.proofs.variables.is_among.Given as goal

abbrev pub invariant-loop-rest : goal.invariant-loop-rest
invariant-loop-rest l = is_among l.rest l.v ≡ is_among l.variables l.v

abbrev pub decreases-loop-rest : goal.decreases-loop-rest
decreases-loop-rest l = length l.rest
