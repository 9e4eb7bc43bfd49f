use Rattle.std.proofs.Common.{◌≡◌, ◌++◌, length}
use Rattle.result_lines.specs.MarkText.{all_kinds_text}
use Rattle.result_lines.proofs.obstacle.put_kinds.Given as goal

abbrev pub invariant-loop-rest : goal.invariant-loop-rest
invariant-loop-rest l = l.out ++ all_kinds_text l.rest ≡ l.fn.out ++ all_kinds_text l.kinds

abbrev pub decreases-loop-rest : goal.decreases-loop-rest
decreases-loop-rest l = length l.rest
