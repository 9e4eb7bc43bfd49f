use Rattle.std.proofs.Common.{◌≡◌, [], length}
use Rattle.call_graph.specs.Callees.{places_of}
use Rattle.call_graph.proofs.callees.places_of.Given as goal

abbrev pub invariant-loop-rest : goal.invariant-loop-rest
invariant-loop-rest l = places_of l.rest l.names l.places ≡ places_of l.fn.calls l.names []

abbrev pub decreases-loop-rest : goal.decreases-loop-rest
decreases-loop-rest l = length l.rest
