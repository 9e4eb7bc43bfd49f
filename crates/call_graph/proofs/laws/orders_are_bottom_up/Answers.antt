use Rattle.call_graph.proofs.OrderLaws.{bottom_up}
use Rattle.call_graph.proofs.laws.orders_are_bottom_up.Goals as goal

pub returns : goal.returns
returns c = bottom_up
