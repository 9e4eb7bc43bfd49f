use Rattle.laws_programs.proofs.Storage.FoundLaws.{found_is_cell}
use Rattle.laws_programs.proofs.scopes.found_is_cell.Goals as goal

pub returns : goal.returns
returns c = found_is_cell
