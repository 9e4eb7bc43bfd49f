use Rattle.storage_data.proofs.BlockLaws.{blocks_take_groups}
use Rattle.storage_data.proofs.group_laws.blocks_take_groups.Goals as goal

pub returns : goal.returns
returns c = blocks_take_groups
