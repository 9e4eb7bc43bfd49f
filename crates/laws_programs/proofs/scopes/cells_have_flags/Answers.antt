use Rattle.laws_programs.proofs.Storage.FlagLaws.{cells_have_flags}
use Rattle.laws_programs.proofs.scopes.cells_have_flags.Goals as goal

pub returns : goal.returns
returns c = cells_have_flags
