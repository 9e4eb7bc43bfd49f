use Rattle.storage_data.proofs.ColumnLaws.{next_element_has_next_number}
use Rattle.storage_data.proofs.laws.next_element_has_next_number.Goals as goal

pub returns : goal.returns
returns c = next_element_has_next_number
