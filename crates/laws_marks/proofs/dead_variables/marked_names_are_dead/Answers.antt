use Rattle.laws_marks.proofs.ConflictAlone.{copies_are_sole}
use Rattle.laws_marks.proofs.MarkedPrograms.{marks_are_dead}
use Rattle.laws_marks.proofs.dead_variables.marked_names_are_dead.Goals as goal

pub returns : goal.returns
returns c = λ ps sss g x. marks_are_dead ps sss g x copies_are_sole c.units_stand.ensures c.copies_lie_in_own_regions.ensures c.private_units_are_dead.ensures
