use Rattle.laws_database.proofs.Whole.{results_have_values}
use Rattle.laws_database.proofs.results_have_values.Goals as goal

pub returns : goal.returns
returns c = results_have_values
