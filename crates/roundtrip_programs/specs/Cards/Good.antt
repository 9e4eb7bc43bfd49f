-- Which cards are read as they were written.
use Rattle.std.specs.Prelude.{◌≡◌, ℕ, ◌≤◌, List, [], ◌∷◌, ◌++◌, length, IfSome, Bool, true, false, not, ◌&&◌, nat_le, nat_eq, codes}
use Rattle.std.specs.List.{list_all, list_any}
use Rattle.fixed_form.specs.declared.line.Line.{Line}
use Rattle.fixed_form.specs.Body as body
use Rattle.fixed_form.specs.Cards.{is_comment}
use Rattle.fixed_form.specs.Characters.{line_feed, is_allowed}
use Rattle.fixed_form.specs.Laws.{IsLabel}
use Rattle.fixed_form.specs.TextLines.{without_returns}
use Rattle.f77_printer.specs.Layout.{stripped, fitted}
use Rattle.roundtrip_programs.specs.Cards.Cards.{Card}

-- a comment line, kept or dropped: no line feed stands in it, and no carriage return at its end
pub record IsComment (line : List ℕ) : Type 0 where
  pub comment : is_comment line ≡ true
  pub one_line : list_any (nat_eq line_feed) line ≡ false
  pub no_return : without_returns line ≡ line

abbrev pub AreComments : List (List ℕ) → Type 0
AreComments [] = Unit {0}
AreComments (l ∷ ls) = record { first : IsComment l; others : AreComments ls }

-- printable ASCII, which runs from the blank to ~
abbrev pub is_printable : ℕ → Bool
is_printable c = nat_le 32 c && nat_le c 126

-- something stands at the front, and no blank
abbrev pub starts : List ℕ → Bool
starts [] = false
starts (c ∷ cs) = not (nat_eq c 32)

-- in the columns of its lines, stripped and folded to capitals as they are read, the text is what it is without its blanks
abbrev pub IsLined : List ℕ → Type 0
IsLined text = (more : List ℕ) → body.stripped false (text ++ more) ≡ stripped false text ++ body.stripped false more

-- no tab stands outside its character constants
abbrev pub HasNoTab : List ℕ → Type 0
HasNoTab text = (more : List ℕ) → body.has_tab false (text ++ more) ≡ body.has_tab false more

-- a text that twenty lines hold; a tab may stand inside its constants
pub record IsText (text : List ℕ) : Type 0 where
  pub allowed : list_all is_allowed text ≡ true
  pub front : starts text ≡ true
  pub lined : IsLined text
  pub tabless : HasNoTab text
  pub fits : length (fitted text) ≤ 1320

pub record IsCard (c : Card) : Type 0 where
  pub comments : AreComments c.comments
  pub label : IfSome c.label IsLabel
  pub text : IsText c.text

abbrev pub AreCards : List Card → Type 0
AreCards [] = Unit {0}
AreCards (c ∷ cs) = record { first : IsCard c; others : AreCards cs }

-- the last statement is END, where there is any
abbrev pub AreEnded : List Card → Type 0
AreEnded [] = Unit {0}
AreEnded (c ∷ []) = stripped false c.text ≡ codes "END"
AreEnded (c ∷ d ∷ cs) = AreEnded (d ∷ cs)

-- a statement that was read: of allowed characters, as many as the columns of twenty lines hold
pub record IsBody (body : List ℕ) : Type 0 where
  pub allowed : list_all is_allowed body ≡ true
  pub short : length body ≤ 1320

abbrev pub AreBodies : List Line → Type 0
AreBodies [] = Unit {0}
AreBodies (s ∷ ss) = record { first : IsBody s.body; others : AreBodies ss }
