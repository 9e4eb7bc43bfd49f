use Rattle.call_graph.proofs.OrderLaws.{whole}
use Rattle.call_graph.proofs.laws.orders_are_whole.Goals as goal

pub returns : goal.returns
returns c = whole
