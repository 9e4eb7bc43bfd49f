use Rattle.laws_marks.proofs.ConflictAlone.{copies_are_sole}
use Rattle.laws_marks.proofs.Directives.{marked_loops_dead}
use Rattle.laws_marks.proofs.dead_variables.marked_loops_are_dead.Goals as goal

pub returns : goal.returns
returns c = λ ps sss g x. marked_loops_dead ps sss g x copies_are_sole c.iterations_are_begun.ensures c.directive_names_stand.ensures c.marked_names_are_dead.ensures
