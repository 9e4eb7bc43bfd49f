use Rattle.std.proofs.Common.{◌≡◌, length}
use Rattle.base_text.specs.Order.{in_order_by}
use Rattle.base_text.proofs.order.are_in_order.Given as goal

abbrev pub invariant-loop-rest : goal.invariant-loop-rest
invariant-loop-rest g l = in_order_by g.T.Placed.name_is g.T.Placed.kind_is l.names l.rest ≡ in_order_by g.T.Placed.name_is g.T.Placed.kind_is l.fn.names l.fn.placed

abbrev pub decreases-loop-rest : goal.decreases-loop-rest
decreases-loop-rest g l = length l.rest
