use Rattle.pips_top.proofs.FunctionReading.{is_read_so}
use Rattle.pips_top.proofs.example_laws.function_is_read_so.Goals as goal

pub returns : goal.returns
returns c = is_read_so
