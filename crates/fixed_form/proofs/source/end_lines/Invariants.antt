use Rattle.std.proofs.Common.{◌≡◌, ◌++◌, length}
use Rattle.fixed_form.specs.Pieces.{end_lines}
use Rattle.fixed_form.proofs.source.end_lines.Given as goal

abbrev pub invariant-loop-rest : goal.invariant-loop-rest
invariant-loop-rest l = l.ends.items ++ end_lines l.rest ≡ end_lines l.statements

abbrev pub decreases-loop-rest : goal.decreases-loop-rest
decreases-loop-rest l = length l.rest
