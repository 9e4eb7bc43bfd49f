use Rattle.laws_programs.proofs.Storage.CallLaws.{dummies_are_tracked}
use Rattle.laws_programs.proofs.calls.dummies_are_tracked.Goals as goal

pub returns : goal.returns
returns c = dummies_are_tracked
