use Rattle.storage_layout.proofs.EquivalenceLaws.{equivalences_coincide}
use Rattle.storage_layout.proofs.laws.equivalences_coincide.Goals as goal

pub returns : goal.returns
returns c = equivalences_coincide
