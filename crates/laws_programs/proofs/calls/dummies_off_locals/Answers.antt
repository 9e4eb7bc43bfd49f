use Rattle.laws_programs.proofs.Storage.OwnedLaws.{dummies_off_locals}
use Rattle.laws_programs.proofs.calls.dummies_off_locals.Goals as goal

pub returns : goal.returns
returns c = dummies_off_locals
