use Rattle.laws_database.proofs.Whole.{making_is_defined}
use Rattle.laws_database.proofs.making_is_defined.Goals as goal

pub returns : goal.returns
returns c = making_is_defined c.tables_ignore_places.ensures c.graphs_ignore_places.ensures
