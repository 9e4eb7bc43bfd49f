use Rattle.std.proofs.Common.{◌≡◌, ◌++◌, length}
use Rattle.call_graph.specs.Order.{order_of, names_at}
use Rattle.call_graph.proofs.order.names_in_order.Given as goal

abbrev pub invariant-loop-rest : goal.invariant-loop-rest
invariant-loop-rest l = l.named ++ names_at l.rest l.names ≡ names_at (order_of l.callees) l.names

abbrev pub decreases-loop-rest : goal.decreases-loop-rest
decreases-loop-rest l = length l.rest
