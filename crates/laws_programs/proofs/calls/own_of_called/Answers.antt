use Rattle.laws_programs.proofs.Storage.OwnedLaws.{own_of_called}
use Rattle.laws_programs.proofs.calls.own_of_called.Goals as goal

pub returns : goal.returns
returns c = own_of_called
