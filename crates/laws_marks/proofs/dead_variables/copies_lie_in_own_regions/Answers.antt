use Rattle.laws_marks.proofs.ConflictAlone.{copies_are_sole}
use Rattle.laws_marks.proofs.PrivatePrograms.{copies_lie_in_own}
use Rattle.laws_marks.proofs.dead_variables.copies_lie_in_own_regions.Goals as goal

pub returns : goal.returns
returns c = λ ps sss g x. copies_lie_in_own ps sss g x copies_are_sole c.units_stand.ensures c.read_outs_hold.ensures
