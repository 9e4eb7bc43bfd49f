use Rattle.std.proofs.Common.{◌≡◌, ◌<◌, ◌^◌, drop}
use Rattle.session_texts.specs.Words.{digits_after}
use Rattle.session_texts.proofs.words.digits.Given as goal

abbrev pub invariant-loop-b : goal.invariant-loop-b
invariant-loop-b l = record {
  same : digits_after l.number (drop l.b-index l.word) ≡ digits_after 0 l.word;
  small : l.number < 10 ^ l.b-index;
}
