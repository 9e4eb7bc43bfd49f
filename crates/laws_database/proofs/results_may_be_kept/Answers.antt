use Rattle.laws_database.proofs.Going.{results_may_be_kept}
use Rattle.laws_database.proofs.results_may_be_kept.Goals as goal

pub returns : goal.returns
returns c = results_may_be_kept
