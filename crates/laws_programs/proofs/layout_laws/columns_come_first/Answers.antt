use Rattle.storage_data.proofs.ColumnLaws.{next_element_has_next_number}
use Rattle.laws_programs.proofs.layout_laws.columns_come_first.Goals as goal

pub returns : goal.returns
returns c = next_element_has_next_number
