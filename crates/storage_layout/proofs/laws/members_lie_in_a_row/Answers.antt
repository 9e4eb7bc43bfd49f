use Rattle.storage_layout.proofs.RowLaws.{members_lie_in_a_row}
use Rattle.storage_layout.proofs.laws.members_lie_in_a_row.Goals as goal

pub returns : goal.returns
returns c = members_lie_in_a_row
