use Rattle.laws_programs.proofs.Storage.CallLaws.{calls_are_listed}
use Rattle.laws_programs.proofs.calls.calls_are_listed.Goals as goal

pub returns : goal.returns
returns c = calls_are_listed
