use Rattle.laws_programs.proofs.Storage.OwnerLaws.{below_is_owned}
use Rattle.laws_programs.proofs.owners.below_is_owned.Goals as goal

pub returns : goal.returns
returns c = below_is_owned
