use Rattle.std.proofs.Common.{◌≡◌, ◌++◌, length}
use Rattle.call_graph.specs.Callees.{edges_of}
use Rattle.call_graph.proofs.callees.add_edges.Given as goal

abbrev pub invariant-loop-rest : goal.invariant-loop-rest
invariant-loop-rest l = l.edges ++ edges_of l.caller l.rest ≡ l.fn.edges ++ edges_of l.caller l.fn.calls

abbrev pub decreases-loop-rest : goal.decreases-loop-rest
decreases-loop-rest l = length l.rest
