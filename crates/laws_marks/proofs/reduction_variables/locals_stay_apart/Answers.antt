use Rattle.laws_marks.proofs.ApartPrograms.{locals_stay_apart}
use Rattle.laws_marks.proofs.reduction_variables.locals_stay_apart.Goals as goal

pub returns : goal.returns
returns c = locals_stay_apart
