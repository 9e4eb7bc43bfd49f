use Rattle.laws_marks.proofs.MarkedFits.{marked_may}
use Rattle.laws_marks.proofs.marked_loops.loops_may_interleave.Goals as goal

pub returns : goal.returns
returns c = marked_may
