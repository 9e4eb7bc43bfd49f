use Rattle.laws_marks.proofs.Inactive.{inactive_units_have_none}
use Rattle.laws_marks.proofs.inactive_units.inactive_units_have_none.Goals as goal

pub returns : goal.returns
returns c = inactive_units_have_none c.jumps_stay_inside.ensures c.accepted_data_stays_in_locals.ensures
