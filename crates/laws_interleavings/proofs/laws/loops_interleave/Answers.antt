use Rattle.laws_interleavings.proofs.Loops.{loop_interleaves}
use Rattle.laws_interleavings.proofs.laws.loops_interleave.Goals as goal

pub returns : goal.returns
returns c = λ m s may picks. loop_interleaves m s may picks
