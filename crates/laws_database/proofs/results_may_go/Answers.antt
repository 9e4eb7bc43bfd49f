use Rattle.laws_database.proofs.Going.{results_may_go}
use Rattle.laws_database.proofs.results_may_go.Goals as goal

pub returns : goal.returns
returns c = results_may_go
