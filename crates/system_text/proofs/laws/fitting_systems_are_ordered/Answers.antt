use Rattle.system_text.proofs.Ordered.{fitting_systems_are_ordered}
use Rattle.system_text.proofs.laws.fitting_systems_are_ordered.Goals as goal

pub returns : goal.returns
returns c = fitting_systems_are_ordered
