use Rattle.laws_programs.proofs.Storage.FoundLaws.{common_scalars_are_tracked_together}
use Rattle.laws_programs.proofs.scopes.common_scalars_are_tracked_together.Goals as goal

pub returns : goal.returns
returns c = common_scalars_are_tracked_together
