-- What is written of a statement takes no more room than what was read.
use Rattle.std.specs.Prelude.{◌≡◌, ℕ, ◌≤◌, List, [], ◌∷◌, length, Ok, true, false}
use Rattle.std.specs.List.{list_all}
use Rattle.fixed_form.specs.declared.line.Line.{Line}
use Rattle.fixed_form.specs.declared.line.Lines.{Lines}
use Rattle.fixed_form.specs.Characters.{is_allowed}
use Rattle.fixed_form.specs.Reading.{reading}
use Rattle.f77_statements.specs.Phrases.{PhraseTree}
use Rattle.f77_statements.specs.Statements.{phrase_of}
use Rattle.f77_printer.specs.Layout.{stripped}
use Rattle.roundtrip_programs.specs.Cards.Good.{IsText, IsBody}
use Rattle.roundtrip_programs.specs.Statements.Weights.{Weight, weigh}
use Rattle.roundtrip_programs.specs.Statements.Written.{phrase_text}

-- what is written of each of these statements is a text that is read back from its lines
abbrev pub AreWritten : List Line → Type 0
AreWritten [] = Unit {0}
AreWritten (s ∷ ss) = record { first : (p : PhraseTree) → phrase_of s.body ≡ Ok p → IsText (phrase_text p); others : AreWritten ss }

pub record StatementsFit : Type 0 where
  -- without its blanks the text weighs no more than what was read, where all printable characters weigh the same
  pub lighter : (w : Weight) (body : List ℕ) (p : PhraseTree) → phrase_of body ≡ Ok p → weigh w (stripped false (phrase_text p)) ≤ weigh w body
  -- so it has no more characters, and none but allowed ones where what was read had no others
  pub shorter : (body : List ℕ) (p : PhraseTree) → phrase_of body ≡ Ok p → length (stripped false (phrase_text p)) ≤ length body
  pub allowed : (body : List ℕ) (p : PhraseTree) → phrase_of body ≡ Ok p → list_all is_allowed body ≡ true → list_all is_allowed (phrase_text p) ≡ true
  -- what lines held is written as a text that lines hold
  pub fits : (body : List ℕ) (p : PhraseTree) → IsBody body → phrase_of body ≡ Ok p → IsText (phrase_text p)
  pub lines_fit : (text : List ℕ) (read : Lines) → reading text ≡ Ok read → AreWritten read.lines
