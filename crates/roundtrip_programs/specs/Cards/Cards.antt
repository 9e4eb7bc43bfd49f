-- What is written of statements, and the lines as which it is read.
use Rattle.std.specs.Prelude.{ℕ, ◌+◌, ◌-◌, ◌/◌, List, [], ◌∷◌, ◌++◌, length, Option, false, if◌then◌else◌}
use Rattle.fixed_form.specs.declared.line.Line.{Line}
use Rattle.fixed_form.specs.Cards.{is_dropped}
use Rattle.f77_printer.specs.Layout.{stripped, fitted, statement_lines}
use Rattle.f77_printer.specs.PageText.{lines_text}

-- a statement as it is written: the comments before it, its label and its text from column 7 on
pub record Card : Type 0 where
  pub comments : List (List ℕ)
  pub label : Option ℕ
  pub text : List ℕ

-- the text of cards, and of the comments behind them
abbrev pub cards_text : List Card → List (List ℕ) → List ℕ
cards_text [] closing = lines_text closing
cards_text (c ∷ cs) closing = lines_text c.comments ++ (statement_lines c.label c.text ++ cards_text cs closing)

-- the comments that reading keeps
abbrev pub kept : List (List ℕ) → List (List ℕ)
kept [] = []
kept (l ∷ ls) = if is_dropped l then kept ls else l ∷ kept ls

-- how many continuation lines a text takes, with 66 characters in each line
abbrev pub continuations : List ℕ → ℕ
continuations text = (length (fitted text) - 1) / 66

-- a card whose first line has this number
abbrev pub line_at : ℕ → Card → Line
line_at first c = record { first = first; last = first + continuations c.text; label = c.label; body = stripped false c.text; comments = kept c.comments }

-- the statements of cards, where the first comment of the first one stands in line n
abbrev pub lines_from : ℕ → List Card → List Line
lines_from n [] = []
lines_from n (c ∷ cs) = line_at (n + length c.comments) c ∷ lines_from (n + length c.comments + continuations c.text + 1) cs
