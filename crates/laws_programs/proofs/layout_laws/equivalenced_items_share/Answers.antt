use Rattle.laws_programs.proofs.Layouts.EquivalenceLaws.{equivalenced_items_share}
use Rattle.laws_programs.proofs.layout_laws.equivalenced_items_share.Goals as goal

pub returns : goal.returns
returns c = equivalenced_items_share
