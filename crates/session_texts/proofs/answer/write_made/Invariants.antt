use Rattle.std.proofs.Common.{◌≡◌, ◌++◌, length}
use Rattle.session_texts.specs.Answers.{made_lines}
use Rattle.session_texts.proofs.answer.write_made.Given as goal

abbrev pub invariant-loop-rest : goal.invariant-loop-rest
invariant-loop-rest l = l.out ++ made_lines l.rest ≡ l.initial.out ++ made_lines l.keys

abbrev pub decreases-loop-rest : goal.decreases-loop-rest
decreases-loop-rest l = length l.rest
