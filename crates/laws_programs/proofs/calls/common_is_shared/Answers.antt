use Rattle.laws_programs.proofs.Storage.BelowLaws.{common_is_shared}
use Rattle.laws_programs.proofs.calls.common_is_shared.Goals as goal

pub returns : goal.returns
returns c = common_is_shared
