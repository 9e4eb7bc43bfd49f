use Rattle.pips_top.proofs.FunctionResults.{is_private_so}
use Rattle.pips_top.proofs.example_laws.function_is_private_so.Goals as goal

pub returns : goal.returns
returns c = is_private_so
