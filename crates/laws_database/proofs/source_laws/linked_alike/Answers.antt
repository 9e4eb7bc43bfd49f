use Rattle.laws_database.proofs.Sources.Whole as whole
use Rattle.laws_database.proofs.source_laws.linked_alike.Goals as goal

pub returns : goal.returns
returns c = whole.linked_alike c.pieces_are_modules.ensures c.tables_ignore_places.ensures c.graphs_ignore_places.ensures
