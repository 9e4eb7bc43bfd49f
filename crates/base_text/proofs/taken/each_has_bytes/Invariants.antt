use Rattle.std.proofs.Common.{length}
use Rattle.base_values.specs.Naming.{Each}
use Rattle.base_text.specs.Grammar.{HasBytes}
use Rattle.base_text.proofs.taken.each_has_bytes.Given as goal

abbrev pub invariant-loop-rest : goal.invariant-loop-rest
invariant-loop-rest l = Each HasBytes l.rest → Each HasBytes l.fn.modules

abbrev pub decreases-loop-rest : goal.decreases-loop-rest
decreases-loop-rest l = length l.rest
