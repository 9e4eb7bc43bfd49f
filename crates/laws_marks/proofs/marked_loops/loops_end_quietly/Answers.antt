use Rattle.laws_marks.proofs.MarkedEnding.{ends_quietly}
use Rattle.laws_marks.proofs.marked_loops.loops_end_quietly.Goals as goal

pub returns : goal.returns
returns c = ends_quietly
