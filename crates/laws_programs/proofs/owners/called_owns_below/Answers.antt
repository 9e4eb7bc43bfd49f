use Rattle.laws_programs.proofs.Storage.OwnerLaws.{called_owns_below}
use Rattle.laws_programs.proofs.owners.called_owns_below.Goals as goal

pub returns : goal.returns
returns c = called_owns_below
