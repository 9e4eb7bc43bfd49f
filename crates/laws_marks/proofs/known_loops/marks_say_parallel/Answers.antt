use Rattle.laws_marks.proofs.Said.{says_parallel}
use Rattle.laws_marks.proofs.known_loops.marks_say_parallel.Goals as goal

pub returns : goal.returns
returns c = says_parallel
