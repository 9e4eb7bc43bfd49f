-- What one line changes of what was read before it: cited by private functions alone.
use Rattle.std.specs.Prelude.{◌≡◌, ℕ, ◌+◌, List, [], ◌∷◌, ◌++◌, Option, Some, None, option_map, Result, Ok, Err, false, if◌then◌else◌, nat_eq}
use Rattle.fx_lists.specs.declared.code.Code.{Code}
use Rattle.fx_lists.specs.declared.code.Code.TheVariants.{NoEnd}
use Rattle.fixed_form.specs.declared.fault.Begun.{Begun}
use Rattle.fixed_form.specs.declared.line.Line.{Line}
use Rattle.fixed_form.specs.declared.line.Lines.{Lines}
use Rattle.fixed_form.specs.declared.line.ReadRefusal.{ReadRefusal}
use Rattle.fixed_form.specs.declared.line.ReadRefusal.TheVariants.{At, Memory}
use Rattle.fixed_form.specs.declared.progress.Current.{Current}
use Rattle.fixed_form.specs.declared.progress.Progress.{Progress}
use Rattle.fixed_form.specs.Characters.{line_feed}
use Rattle.fixed_form.specs.Cards.{is_comment, is_dropped, card, columns, is_initial, label_field}
use Rattle.fixed_form.specs.Body.{stripped, quoted_after}
use Rattle.fx_lists.specs.Refusals.{number_of}
use Rattle.fixed_form.specs.Faults.{fault_of}
use Rattle.fixed_form.specs.Reading.{label_of, ends_well}

-- the first line of a text, and what follows it
abbrev pub first_line : List ℕ → List ℕ
first_line [] = []
first_line (b ∷ bs) = if nat_eq b line_feed then [] else b ∷ first_line bs

abbrev pub after_line : List ℕ → List ℕ
after_line [] = []
after_line (b ∷ bs) = if nat_eq b line_feed then bs else after_line bs

-- what is begun, as far as a line's faults ask for it
abbrev pub begun_of : Option Current → Option Begun
begun_of None = None
begun_of (Some c) = Some c.begun

-- the statement that is finished when another begins
abbrev pub finish_all : Option Current → List Line
finish_all None = []
finish_all (Some c) = c.line ∷ []

unfoldable pub keep_comment : List ℕ → Progress → Progress
keep_comment line p = record p { comments = p.comments ++ line ∷ [] }

unfoldable pub initial : ℕ → List ℕ → Progress → Progress
initial n card p = record {
  done = p.done ++ finish_all p.current;
  current = Some (record {
    line = record { first = n; last = n; label = label_of (label_field card); body = stripped false (columns card); comments = p.comments };
    begun = record { quoted = quoted_after false (columns card); continuations = 0 };
  });
  comments = [];
}

abbrev pub continue_line : ℕ → List ℕ → List (List ℕ) → Current → Current
continue_line n card comments c = record {
  line = record c.line { last = n; body = c.line.body ++ stripped c.begun.quoted (columns card); comments = c.line.comments ++ comments };
  begun = record { quoted = quoted_after c.begun.quoted (columns card); continuations = c.begun.continuations + 1 };
}

abbrev pub continuing : Option Current → ℕ → List ℕ → Progress → Progress
continuing None n card p = p
continuing (Some c) n card p = record { done = p.done; current = Some (continue_line n card p.comments c); comments = [] }

unfoldable pub continuation : ℕ → List ℕ → Progress → Progress
continuation n card p = continuing p.current n card p

unfoldable pub step : ℕ → List ℕ → Progress → Progress
step n card p = if is_initial card then initial n card p else continuation n card p

abbrev pub line_fault : Option Current → List ℕ → Option Code
line_fault current line = if is_comment line then None else fault_of (begun_of current) (card line)

abbrev pub line_step : ℕ → List ℕ → Progress → Progress
line_step n line p =
    if is_comment line then (if is_dropped line then p else keep_comment line p)
    else step n (card line) p

-- a line is taken in, or refused with its first fault: found
abbrev pub Takes : ℕ → Option Code → Progress → Result Progress ReadRefusal → Type 0
Takes n found p (Ok q) = (found ≡ None) × (q ≡ p)
Takes n found p (Err (At line code)) = (line ≡ n) × (option_map number_of found ≡ Some code)
Takes n found p (Err Memory) = Unit {0}

-- what was read at the end of the last line
abbrev pub outcome_at : ℕ → Progress → Result Lines (ℕ × ℕ)
outcome_at last p =
    if ends_well (p.done ++ finish_all p.current) then Ok (record { lines = p.done ++ finish_all p.current; closing = p.comments })
    else Err (last, number_of NoEnd)
