use Rattle.laws_marks.proofs.ConflictAlone.{copies_are_sole}
use Rattle.laws_marks.proofs.conflicts.copies_are_sole.Goals as goal

pub returns : goal.returns
returns c = copies_are_sole
