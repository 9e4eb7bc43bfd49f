use Rattle.storage_data.proofs.JoinLaws.{still_one}
use Rattle.storage_data.proofs.group_laws.coincident_units_stay.Goals as goal

pub returns : goal.returns
returns c = still_one
