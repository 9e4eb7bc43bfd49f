use Rattle.laws_programs.proofs.Storage.ReadLaws.{calls_are_read}
use Rattle.laws_programs.proofs.calls.calls_are_read.Goals as goal

pub returns : goal.returns
returns c = calls_are_read
