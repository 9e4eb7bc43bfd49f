use Rattle.laws_programs.proofs.Storage.OwnedLaws.{variables_keep_off}
use Rattle.laws_programs.proofs.calls.variables_keep_off.Goals as goal

pub returns : goal.returns
returns c = variables_keep_off
