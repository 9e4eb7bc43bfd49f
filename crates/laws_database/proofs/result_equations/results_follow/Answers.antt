use Rattle.laws_database.proofs.ResultFollows.{results_follow}
use Rattle.laws_database.proofs.result_equations.results_follow.Goals as goal

pub returns : goal.returns
returns c = results_follow
