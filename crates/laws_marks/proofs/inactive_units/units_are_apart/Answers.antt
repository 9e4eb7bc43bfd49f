use Rattle.laws_marks.proofs.inactive_units.units_are_apart.Goals as goal
use Rattle.laws_marks.proofs.Apart.{units_are_apart}

pub returns : goal.returns
returns c = units_are_apart
