use Rattle.laws_programs.proofs.Storage.OwnUnitLaws.{own_units_differ}
use Rattle.laws_programs.proofs.cells.own_units_differ.Goals as goal

pub returns : goal.returns
returns c = own_units_differ
