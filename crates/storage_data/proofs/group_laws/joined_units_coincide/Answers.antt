use Rattle.storage_data.proofs.JoinLaws.{becomes_one}
use Rattle.storage_data.proofs.group_laws.joined_units_coincide.Goals as goal

pub returns : goal.returns
returns c = becomes_one
