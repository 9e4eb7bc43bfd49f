use Rattle.pips_top.proofs.FunctionResults.{is_analysed_so}
use Rattle.pips_top.proofs.example_laws.function_is_analysed_so.Goals as goal

pub returns : goal.returns
returns c = is_analysed_so
