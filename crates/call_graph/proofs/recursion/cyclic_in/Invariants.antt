use Rattle.std.proofs.Common.{◌≡◌, length}
use Rattle.call_graph.specs.Recursion.{cyclic_in}
use Rattle.call_graph.specs.Tables.{cell}
use Rattle.call_graph.proofs.recursion.cyclic_in.Given as goal

abbrev pub invariant-loop-rest : goal.invariant-loop-rest
invariant-loop-rest l = cyclic_in (λ c. cell l.table c l.caller) l.names l.rest ≡ cyclic_in (λ c. cell l.table c l.caller) l.names l.fn.calls

abbrev pub decreases-loop-rest : goal.decreases-loop-rest
decreases-loop-rest l = length l.rest
