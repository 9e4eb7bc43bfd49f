use Rattle.laws_marks.proofs.ConflictAlone.{copies_are_sole}
use Rattle.laws_marks.proofs.Directives.{read_names_stand}
use Rattle.laws_marks.proofs.dead_variables.directive_names_stand.Goals as goal

pub returns : goal.returns
returns c = λ ps sss g x. read_names_stand ps sss g x copies_are_sole c.units_stand.ensures
