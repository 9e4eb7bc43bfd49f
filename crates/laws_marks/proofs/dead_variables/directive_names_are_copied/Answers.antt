use Rattle.laws_marks.proofs.Loops.{names_copied}
use Rattle.laws_marks.proofs.dead_variables.directive_names_are_copied.Goals as goal

pub returns : goal.returns
returns c = names_copied
