use Rattle.laws_programs.proofs.Storage.FoundLaws.{cells_are_found}
use Rattle.laws_programs.proofs.scopes.cells_are_found.Goals as goal

pub returns : goal.returns
returns c = cells_are_found
