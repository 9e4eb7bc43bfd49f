use Rattle.storage_data.proofs.LowestLaws.{lowest_is_least}
use Rattle.storage_data.proofs.group_laws.lowest_is_least.Goals as goal

pub returns : goal.returns
returns c = lowest_is_least
