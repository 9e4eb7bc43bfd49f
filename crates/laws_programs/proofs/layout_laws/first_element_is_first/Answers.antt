use Rattle.storage_data.proofs.ColumnLaws.{first_element_has_number_zero}
use Rattle.laws_programs.proofs.layout_laws.first_element_is_first.Goals as goal

pub returns : goal.returns
returns c = first_element_has_number_zero
