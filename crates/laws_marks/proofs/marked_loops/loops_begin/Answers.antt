use Rattle.laws_marks.proofs.MarkedBegins.{loops_begin}
use Rattle.laws_marks.proofs.marked_loops.loops_begin.Goals as goal

pub returns : goal.returns
returns c = loops_begin
