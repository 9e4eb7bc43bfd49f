-- The statements of a text, each by itself.
use Rattle.std.specs.Prelude.{ℕ, Bool, List, [], ◌∷◌, ◌++◌, length, map, sum_by, Option, Result, Ok, Err}
use Rattle.fixed_form.specs.declared.line.Line.{Line}
use Rattle.fixed_form.specs.declared.line.Lines.{Lines}
use Rattle.f77_forms.specs.Refused.{refused_word}
use Rattle.f77_statements.specs.declared.refusal.Cause.{Cause}
use Rattle.f77_statements.specs.declared.refusal.Cause.TheVariants.{Syntax, OutOfProfile, RealConstant, NumberTooBig, NameTooLong}
use Rattle.fx_lists.specs.Refusals.{number_of}
use Rattle.f77_statements.specs.Causes.{code_of}
use Rattle.f77_statements.specs.Phrases.{PhraseTree, phrase_tree}
use Rattle.f77_statements.specs.Statements.{phrase_of}
use Rattle.f77_structure.specs.declared.mark.Mark.{Mark}
use Rattle.f77_parser.specs.declared.statement.Statement.{Statement}
use Rattle.f77_parser.specs.Roles.{role_of}
use Rattle.f77_structure.specs.Depth.{is_deep}
use Rattle.f77_parser.specs.Gives.{Refused, and_then}

-- a statement by itself, with its first line, its label and the comments before it
pub record StatementTree : Type 0 where
  pub first : ℕ
  pub label : Option ℕ
  pub deep : Bool
  pub comments : List (List ℕ)
  pub phrase : PhraseTree

abbrev pub statement_tree : Statement → StatementTree
statement_tree s = record { first = s.first; label = s.label; deep = s.deep; comments = s.comments; phrase = phrase_tree s.phrase }

-- the keyword that is reported, for a statement of the language that the profile leaves out
abbrev pub keyword_of : Cause → List ℕ
keyword_of Syntax = []
keyword_of (OutOfProfile keyword) = refused_word keyword
keyword_of RealConstant = []
keyword_of NumberTooBig = []
keyword_of NameTooLong = []

abbrev pub refusal_at : ℕ → Cause → Refused
refusal_at line cause = record { line = line; code = number_of (code_of cause); keyword = keyword_of cause }

abbrev pub read_as : Line → Result PhraseTree Cause → Result StatementTree Refused
read_as line (Ok p) = Ok (record { first = line.first; label = line.label; deep = is_deep line.body; comments = line.comments; phrase = p })
read_as line (Err cause) = Err (refusal_at line.first cause)

abbrev pub statement_of : Line → Result StatementTree Refused
statement_of line = read_as line (phrase_of line.body)

-- the statements of these lines behind those that were read, or the first that is refused
abbrev pub all_read : List StatementTree → List Line → Result (List StatementTree) Refused
all_read done [] = Ok done
all_read done (l ∷ ls) = and_then (statement_of l) (λ s. all_read (done ++ s ∷ []) ls)

abbrev pub with_read : Result StatementTree Refused → List StatementTree → List StatementTree
with_read (Ok s) ss = s ∷ ss
with_read (Err r) ss = ss

-- the statements of these lines, without those that are refused
abbrev pub those_read : List Line → List StatementTree
those_read [] = []
those_read (l ∷ ls) = with_read (statement_of l) (those_read ls)

-- a statement as far as structure asks
abbrev pub mark_of : StatementTree → Mark
mark_of s = record { line = s.first; label = s.label; role = role_of s.phrase; deep = s.deep }

abbrev pub marks_of : List StatementTree → List Mark
marks_of ss = map mark_of ss

abbrev pub length_of : Line → ℕ
length_of l = length l.body

-- how many characters the statements have
abbrev pub characters : Lines → ℕ
characters lines = sum_by length_of lines.lines
