use Rattle.laws_marks.proofs.MarkedEnding.{loop_is_quiet}
use Rattle.laws_marks.proofs.marked_loops.dos_are_quiet.Goals as goal

pub returns : goal.returns
returns c = loop_is_quiet
