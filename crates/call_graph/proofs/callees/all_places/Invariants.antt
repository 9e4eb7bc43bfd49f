use Rattle.std.proofs.Common.{◌≡◌, ◌++◌, length}
use Rattle.call_graph.specs.Callees.{all_places}
use Rattle.call_graph.proofs.callees.all_places.Given as goal

abbrev pub invariant-loop-rest : goal.invariant-loop-rest
invariant-loop-rest l = l.all ++ all_places l.names l.rest ≡ all_places l.names l.fn.calls

abbrev pub decreases-loop-rest : goal.decreases-loop-rest
decreases-loop-rest l = length l.rest
