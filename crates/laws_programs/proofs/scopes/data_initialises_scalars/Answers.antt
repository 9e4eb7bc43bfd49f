use Rattle.laws_programs.proofs.Storage.FoundLaws.{data_initialises_scalars}
use Rattle.laws_programs.proofs.scopes.data_initialises_scalars.Goals as goal

pub returns : goal.returns
returns c = data_initialises_scalars
