use Rattle.laws_programs.proofs.Storage.OwnUnitLaws.{own_units_are_no_names}
use Rattle.laws_programs.proofs.cells.own_units_are_no_names.Goals as goal

pub returns : goal.returns
returns c = own_units_are_no_names
