use Rattle.laws_marks.proofs.OwnIn.{own_units_are_inactive}
use Rattle.laws_marks.proofs.inactive_units.own_units_are_inactive.Goals as goal

pub returns : goal.returns
returns c = own_units_are_inactive
