use Rattle.laws_programs.proofs.Storage.LendLaws.{actuals_lend}
use Rattle.laws_programs.proofs.calls.actuals_lend.Goals as goal

pub returns : goal.returns
returns c = actuals_lend
