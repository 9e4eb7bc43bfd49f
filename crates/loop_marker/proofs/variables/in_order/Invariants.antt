use Rattle.std.proofs.Common.{◌≡◌, [], length}
use Rattle.loop_marker.specs.Variables.{in_order_with}
use Rattle.loop_marker.proofs.variables.in_order.Given as goal

abbrev pub invariant-loop-rest : goal.invariant-loop-rest
invariant-loop-rest l = in_order_with l.all l.rest ≡ in_order_with [] l.variables

abbrev pub decreases-loop-rest : goal.decreases-loop-rest
decreases-loop-rest l = length l.rest
