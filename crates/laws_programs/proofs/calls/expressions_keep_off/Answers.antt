use Rattle.laws_programs.proofs.Storage.OwnedLaws.{expressions_keep_off}
use Rattle.laws_programs.proofs.calls.expressions_keep_off.Goals as goal

pub returns : goal.returns
returns c = expressions_keep_off
