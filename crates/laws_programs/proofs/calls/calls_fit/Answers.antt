use Rattle.laws_programs.proofs.Storage.CallLaws.{calls_fit}
use Rattle.laws_programs.proofs.calls.calls_fit.Goals as goal

pub returns : goal.returns
returns c = calls_fit
