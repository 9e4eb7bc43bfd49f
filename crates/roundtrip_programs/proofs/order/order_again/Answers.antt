use Rattle.roundtrip_programs.proofs.ModuleTexts.Writing.{order_again}
use Rattle.roundtrip_programs.proofs.order.order_again.Goals as goal

pub returns : goal.returns
returns c = order_again
