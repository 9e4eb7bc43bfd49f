use Rattle.laws_programs.proofs.Storage.LyingLaws.{common_names_are_common}
use Rattle.laws_programs.proofs.calls.common_names_are_common.Goals as goal

pub returns : goal.returns
returns c = common_names_are_common
