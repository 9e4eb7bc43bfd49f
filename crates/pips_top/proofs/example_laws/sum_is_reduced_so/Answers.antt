use Rattle.pips_top.proofs.SumResults.{is_reduced_so}
use Rattle.pips_top.proofs.example_laws.sum_is_reduced_so.Goals as goal

pub returns : goal.returns
returns c = is_reduced_so
