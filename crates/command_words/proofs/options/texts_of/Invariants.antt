use Rattle.std.proofs.Common.{◌≡◌, map, take, drop, List, ℕ}
use Rattle.std.specs.Borrow.{Bor}
use Rattle.command_words.specs.Texts.{AreTexts}
use Rattle.command_words.proofs.options.texts_of.Given as goal

abbrev pub invariant-loop-word : goal.invariant-loop-word
invariant-loop-word l = record {
  text : map (λ (text : Bor (List ℕ)). text.now) l.texts.items ≡ take l.word-index l.words;
  all : AreTexts (drop l.word-index l.words) → AreTexts l.words;
  rest : AreTexts l.words → AreTexts (drop l.word-index l.words);
}
