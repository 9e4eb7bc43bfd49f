use Rattle.std.proofs.Common.{◌≡◌, ◌+◌, ◌++◌, length, take, drop}
use Rattle.session_texts.specs.Steps.{first_piece, after_piece}
use Rattle.session_texts.proofs.words.first_piece.Given as goal

abbrev pub invariant-loop-rest : goal.invariant-loop-rest
invariant-loop-rest l = record {
  first : take l.length l.line ++ first_piece l.rest ≡ first_piece l.line;
  after : after_piece l.rest ≡ after_piece l.line;
  count : l.length + length l.rest ≡ length l.line;
  whole : drop l.length l.line ≡ l.rest;
}

abbrev pub decreases-loop-rest : goal.decreases-loop-rest
decreases-loop-rest l = length l.rest
