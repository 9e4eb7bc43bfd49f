use Rattle.std.proofs.Common.{◌≡◌, ◌++◌, length, map}
use Rattle.bound_check.specs.CheckLines.{check_lines_of}
use Rattle.bound_check.specs.Views.{checks_at}
use Rattle.bound_check.proofs.lines.check_lines.Given as goal

abbrev pub invariant-loop-rest : goal.invariant-loop-rest
invariant-loop-rest l = l.out ++ check_lines_of (map checks_at l.rest) ≡ check_lines_of (map checks_at l.found)

abbrev pub decreases-loop-rest : goal.decreases-loop-rest
decreases-loop-rest l = length l.rest
