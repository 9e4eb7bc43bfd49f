use Rattle.laws_programs.proofs.Storage.OwnerLaws.{owned_is_private}
use Rattle.laws_programs.proofs.owners.owned_is_private.Goals as goal

pub returns : goal.returns
returns c = owned_is_private
