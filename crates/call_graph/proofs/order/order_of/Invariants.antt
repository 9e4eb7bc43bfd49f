use Rattle.std.proofs.Common.{◌≡◌, ◌-◌, length}
use Rattle.call_graph.specs.Order.{order_from, order_of}
use Rattle.call_graph.proofs.order.order_of.Given as goal

abbrev pub invariant-loop-round : goal.invariant-loop-round
invariant-loop-round l = order_from (length l.callees - l._round) l.callees l.order ≡ order_of l.callees
