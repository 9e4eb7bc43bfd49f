use Rattle.laws_programs.proofs.Layouts.DataMatch.{data_fills_in_order}
use Rattle.laws_programs.proofs.layout_laws.data_fills_in_order.Goals as goal

pub returns : goal.returns
returns c = data_fills_in_order
