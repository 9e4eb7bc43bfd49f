use Rattle.std.proofs.Common.{◌≡◌, ◌++◌, drop, map}
use Rattle.result_lines.specs.ScalarLines.{before}
use Rattle.result_lines.proofs.loop_marks.put_lines.Given as goal

abbrev pub invariant-loop-line : goal.invariant-loop-line
invariant-loop-line l = l.out ++ map (before l.at) (drop l.line-index l.lines) ≡ l.fn.out ++ map (before l.at) l.lines
