use Rattle.laws_marks.proofs.Numbers.{stores_in_range}
use Rattle.laws_marks.proofs.reduction_variables.stores_stay_in_range.Goals as goal

pub returns : goal.returns
returns c = stores_in_range
