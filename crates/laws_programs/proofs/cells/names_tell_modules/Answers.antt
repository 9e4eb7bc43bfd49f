use Rattle.laws_programs.proofs.Storage.ModuleLaws.{names_tell_modules}
use Rattle.laws_programs.proofs.cells.names_tell_modules.Goals as goal

pub returns : goal.returns
returns c = names_tell_modules
