use Rattle.laws_database.proofs.Whole.{making_may_stop}
use Rattle.laws_database.proofs.making_may_stop.Goals as goal

pub returns : goal.returns
returns c = making_may_stop c.tables_ignore_places.ensures c.graphs_ignore_places.ensures
