use Rattle.laws_programs.proofs.Storage.OwnerLaws.{owned_is_in_no_block}
use Rattle.laws_programs.proofs.owners.owned_is_in_no_block.Goals as goal

pub returns : goal.returns
returns c = owned_is_in_no_block
