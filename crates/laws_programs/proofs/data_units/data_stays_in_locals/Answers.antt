use Rattle.laws_programs.proofs.Storage.DataLaws.{data_stays_in_locals}
use Rattle.laws_programs.proofs.data_units.data_stays_in_locals.Goals as goal

pub returns : goal.returns
returns c = data_stays_in_locals
