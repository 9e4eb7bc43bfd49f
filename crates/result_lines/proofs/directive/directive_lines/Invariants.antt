use Rattle.std.proofs.Common.{◌≡◌, ◌++◌, ◌≤◌, length}
use Rattle.result_lines.specs.MarkText.{cut, directive_lines}
use Rattle.result_lines.proofs.directive.directive_lines.Given as goal

abbrev pub invariant-loop-rest : goal.invariant-loop-rest
invariant-loop-rest l = record {
  same : l.lines ++ cut l.line l.used l.rest ≡ directive_lines l.text;
  few : l.used ≤ 66;
}

abbrev pub decreases-loop-rest : goal.decreases-loop-rest
decreases-loop-rest l = length l.rest
