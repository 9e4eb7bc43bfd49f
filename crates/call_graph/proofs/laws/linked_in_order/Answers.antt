use Rattle.call_graph.proofs.CycleLaws.{in_order}
use Rattle.call_graph.proofs.laws.linked_in_order.Goals as goal

pub returns : goal.returns
returns c = in_order
