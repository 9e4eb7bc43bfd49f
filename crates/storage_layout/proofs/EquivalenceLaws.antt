-- The items of each EQUIVALENCE are one unit.
use Rattle.storage_layout.specs.Symbols.{laid}
use Rattle.storage_layout.specs.Laws.{EquivalencesCoincide}
use Rattle.storage_layout.proofs.GroupLaws.{shared_one}
use Rattle.storage_layout.proofs.IsAssociatedLaws.{laid_associated}

pub equivalences_coincide : EquivalencesCoincide
equivalences_coincide t at ds found quiet = shared_one t at ds (laid t ds).offset_nodes found (laid_associated t ds) quiet
