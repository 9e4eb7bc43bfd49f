use Rattle.laws_database.proofs.Sources.Whole as whole
use Rattle.laws_database.proofs.source_laws.linked_is_accepted.Goals as goal

pub returns : goal.returns
returns c = whole.linked_is_accepted c.linked_alike.ensures
