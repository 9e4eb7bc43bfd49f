use Rattle.std.proofs.Common.{◌≡◌, ◌++◌, length}
use Rattle.result_lines.specs.RegionLines.{set_lines}
use Rattle.result_lines.proofs.set_lines.put_set.Given as goal

abbrev pub invariant-loop-rest : goal.invariant-loop-rest
invariant-loop-rest l = l.out ++ set_lines l.names l.before l.rest ≡ l.fn.out ++ set_lines l.names l.before l.fn.set

abbrev pub decreases-loop-rest : goal.decreases-loop-rest
decreases-loop-rest l = length l.rest
