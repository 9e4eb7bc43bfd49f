use Rattle.laws_marks.proofs.ConflictAlone.{copies_are_sole}
use Rattle.laws_marks.proofs.PrivatePrograms.{privates_are_dead}
use Rattle.laws_marks.proofs.dead_variables.private_units_are_dead.Goals as goal

pub returns : goal.returns
returns c = λ ps sss g x. privates_are_dead ps sss g x copies_are_sole c.copies_lie_in_own_regions.ensures c.read_analyses_hold.ensures
