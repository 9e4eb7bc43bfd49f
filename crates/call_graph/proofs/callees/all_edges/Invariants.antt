use Rattle.std.proofs.Common.{◌≡◌, ◌++◌, length}
use Rattle.call_graph.specs.Callees.{all_edges}
use Rattle.call_graph.proofs.callees.all_edges.Given as goal

abbrev pub invariant-loop-rest : goal.invariant-loop-rest
invariant-loop-rest l = l.edges ++ all_edges l.rest l.others ≡ all_edges l.fn.names l.fn.calls

abbrev pub decreases-loop-rest : goal.decreases-loop-rest
decreases-loop-rest l = length l.rest
