use Rattle.std.proofs.Common.{◌≡◌, length}
use Rattle.call_graph.specs.Tables.{calls_below}
use Rattle.call_graph.proofs.recursion.calls_below.Given as goal

abbrev pub invariant-loop-rest : goal.invariant-loop-rest
invariant-loop-rest l = calls_below l.ranks l.limit l.names l.rest ≡ calls_below l.ranks l.limit l.names l.fn.calls

abbrev pub decreases-loop-rest : goal.decreases-loop-rest
decreases-loop-rest l = length l.rest
