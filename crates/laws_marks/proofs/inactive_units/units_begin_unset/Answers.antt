use Rattle.laws_marks.proofs.Initial.{units_begin_unset}
use Rattle.laws_marks.proofs.inactive_units.units_begin_unset.Goals as goal

pub returns : goal.returns
returns c = units_begin_unset c.accepted_data_stays_in_locals.ensures
