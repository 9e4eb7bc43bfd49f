use Rattle.laws_marks.proofs.Said.{reductions_say}
use Rattle.laws_marks.proofs.reduction_variables.reductions_say.Goals as goal

pub returns : goal.returns
returns c = reductions_say
