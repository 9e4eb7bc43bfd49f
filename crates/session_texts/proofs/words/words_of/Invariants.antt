use Rattle.std.proofs.Common.{◌≡◌, ◌++◌, length}
use Rattle.session_texts.specs.Words.{words_of}
use Rattle.session_texts.proofs.words.words_of.Given as goal

abbrev pub invariant-loop-rest : goal.invariant-loop-rest
invariant-loop-rest l = l.words ++ words_of l.rest ≡ words_of l.line

abbrev pub decreases-loop-rest : goal.decreases-loop-rest
decreases-loop-rest l = length l.rest
