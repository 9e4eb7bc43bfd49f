use Rattle.std.proofs.Common.{length}
use Rattle.base_values.specs.Naming.{AreBytes}
use Rattle.base_text.proofs.taken.bytes_are.Given as goal

abbrev pub invariant-loop-rest : goal.invariant-loop-rest
invariant-loop-rest l = AreBytes l.rest → AreBytes l.fn.bytes

abbrev pub decreases-loop-rest : goal.decreases-loop-rest
decreases-loop-rest l = length l.rest
