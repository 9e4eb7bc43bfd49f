use Rattle.laws_programs.proofs.Storage.BeginLaws.{data_lies_in_variables}
use Rattle.laws_programs.proofs.cells.data_lies_in_variables.Goals as goal

pub returns : goal.returns
returns c = data_lies_in_variables
