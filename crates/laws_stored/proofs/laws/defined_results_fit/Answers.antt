use Rattle.laws_stored.proofs.Joined.{defined_results_fit}
use Rattle.laws_stored.proofs.laws.defined_results_fit.Goals as goal

pub returns : goal.returns
returns c = defined_results_fit
