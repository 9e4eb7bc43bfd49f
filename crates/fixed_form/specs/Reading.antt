-- The statements of a text: what a text in fixed form says, line by line from its end.
use Rattle.std.specs.Prelude.{◌≡◌, ℕ, ◌+◌, List, [], ◌∷◌, ◌++◌, length, Option, Some, None, Result, Ok, Err, Bool, true, false, if◌then◌else◌, is_some, unwrap_or, bytes_eq, codes}
use Rattle.fixed_form.specs.declared.label.LabelField.{LabelField}
use Rattle.fixed_form.specs.declared.label.LabelField.TheVariants.{Blank, Label, Bad}
use Rattle.fx_lists.specs.declared.code.Code.{Code}
use Rattle.fx_lists.specs.declared.code.Code.TheVariants.{NoEnd}
use Rattle.fixed_form.specs.declared.line.Line.{Line}
use Rattle.fixed_form.specs.declared.line.Lines.{Lines}
use Rattle.fixed_form.specs.declared.line.ReadRefusal.{ReadRefusal}
use Rattle.fixed_form.specs.declared.line.ReadRefusal.TheVariants.{At, Memory}
use Rattle.fixed_form.specs.TextLines.{text_lines}
use Rattle.fixed_form.specs.Cards.{is_comment, is_dropped, card, columns, is_initial, label_field}
use Rattle.fixed_form.specs.Body.{stripped}
use Rattle.fx_lists.specs.Refusals.{number_of}
use Rattle.fixed_form.specs.Faults.{first_fault}

-- what the lines from some line on give: first what they add to a statement begun before them
pub record Rest : Type 0 where
  -- the columns of its continuation lines, the number of the last of these, and the comments before that one
  pub more : List ℕ
  pub last : Option ℕ
  pub inside : List (List ℕ)
  -- the statements that begin here, and the comments after the last of them
  pub statements : List Line
  pub closing : List (List ℕ)

abbrev pub before_statements : List ℕ → List Line → List (List ℕ) → Rest → Rest
before_statements comment [] closing rest = record rest { closing = comment ∷ closing }
before_statements comment (s ∷ ss) closing rest = record rest { statements = record s { comments = comment ∷ s.comments } ∷ ss }

-- a kept comment stands before the statement of the next statement line, or at the end of the text
abbrev pub with_comment : List ℕ → Rest → Rest
with_comment comment rest =
    if is_some rest.last then record rest { inside = comment ∷ rest.inside }
    else before_statements comment rest.statements rest.closing rest

abbrev pub label_of : LabelField → Option ℕ
label_of Blank = None
label_of (Label n) = Some n
label_of Bad = None

-- an initial line begins a statement, which the continuation lines behind it go on with
abbrev pub with_initial : ℕ → List ℕ → Rest → Rest
with_initial n card rest = record {
  more = [];
  last = None;
  inside = [];
  statements = record {
    first = n;
    last = unwrap_or rest.last n;
    label = label_of (label_field card);
    body = stripped false (columns card ++ rest.more);
    comments = rest.inside;
  } ∷ rest.statements;
  closing = rest.closing;
}

-- a continuation line goes on with the statement begun before it
abbrev pub with_continuation : ℕ → List ℕ → Rest → Rest
with_continuation n card rest = record rest { more = columns card ++ rest.more; last = Some (unwrap_or rest.last n) }

abbrev pub with_line : ℕ → List ℕ → Rest → Rest
with_line n line rest =
    if is_comment line then (if is_dropped line then rest else with_comment line rest)
    else if is_initial (card line) then with_initial n (card line) rest
    else with_continuation n (card line) rest

-- what the lines from line n on give
unfoldable pub rest_from : ℕ → List (List ℕ) → Rest
rest_from n [] = record { more = []; last = None; inside = []; statements = []; closing = [] }
rest_from n (l ∷ ls) = with_line n l (rest_from (n + 1) ls)

abbrev pub is_end : Line → Bool
is_end s = bytes_eq s.body (codes "END")

-- the last statement is END, or there is none
abbrev pub ends_well : List Line → Bool
ends_well [] = true
ends_well (s ∷ []) = is_end s
ends_well (s ∷ t ∷ ss) = ends_well (t ∷ ss)

-- without a fault in a line the statements must end with END; that is asked at the last line
abbrev pub outcome : Option (ℕ × Code) → ℕ → Rest → Result Lines (ℕ × ℕ)
outcome (Some found) last rest = Err (found.0, number_of found.1)
outcome None last rest =
    if ends_well rest.statements then Ok (record { lines = rest.statements; closing = rest.closing }) else Err (last, number_of NoEnd)

-- the statements of a text, or the line and the code of its first fault
unfoldable pub reading : List ℕ → Result Lines (ℕ × ℕ)
reading text = outcome (first_fault None 1 (text_lines text)) (length (text_lines text)) (rest_from 1 (text_lines text))

-- the answer is that reading, but memory may be wanting
abbrev pub Gives : Result Lines ReadRefusal → Result Lines (ℕ × ℕ) → Type 0
Gives (Ok lines) read = read ≡ Ok lines
Gives (Err (At line code)) read = read ≡ Err (line, code)
Gives (Err Memory) read = Unit {0}
