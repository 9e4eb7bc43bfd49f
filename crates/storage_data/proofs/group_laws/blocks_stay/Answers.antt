use Rattle.storage_data.proofs.BlockLaws.{blocks_stay}
use Rattle.storage_data.proofs.group_laws.blocks_stay.Goals as goal

pub returns : goal.returns
returns c = blocks_stay
