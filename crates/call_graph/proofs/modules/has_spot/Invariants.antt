use Rattle.std.proofs.Common.{◌≡◌, length}
use Rattle.call_graph.specs.Modules.{has_spot}
use Rattle.call_graph.proofs.modules.has_spot.Given as goal

abbrev pub invariant-loop-rest : goal.invariant-loop-rest
invariant-loop-rest l = has_spot l.id l.rest ≡ has_spot l.id l.fn.spots

abbrev pub decreases-loop-rest : goal.decreases-loop-rest
decreases-loop-rest l = length l.rest
