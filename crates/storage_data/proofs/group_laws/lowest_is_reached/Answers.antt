use Rattle.storage_data.proofs.LowestLaws.{lowest_is_reached}
use Rattle.storage_data.proofs.group_laws.lowest_is_reached.Goals as goal

pub returns : goal.returns
returns c = lowest_is_reached
