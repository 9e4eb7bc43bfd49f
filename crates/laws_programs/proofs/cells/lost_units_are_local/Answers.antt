use Rattle.laws_programs.proofs.Storage.LocalLaws.{lost_units_are_local}
use Rattle.laws_programs.proofs.cells.lost_units_are_local.Goals as goal

pub returns : goal.returns
returns c = lost_units_are_local
