use Rattle.laws_programs.proofs.Storage.FlagLaws.{flags_tell_cells}
use Rattle.laws_programs.proofs.scopes.flags_tell_cells.Goals as goal

pub returns : goal.returns
returns c = flags_tell_cells
