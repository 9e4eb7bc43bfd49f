use Rattle.std.proofs.Common.{◌≡◌, ◌++◌, drop}
use Rattle.session_texts.specs.Words.{in_capitals}
use Rattle.session_texts.proofs.words.in_capitals.Given as goal

abbrev pub invariant-loop-b : goal.invariant-loop-b
invariant-loop-b l = l.text ++ in_capitals (drop l.b-index l.word) ≡ in_capitals l.word
