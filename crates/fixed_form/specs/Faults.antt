-- The first line that breaks the form, and the first rule that it breaks.
use Rattle.std.specs.Prelude.{ℕ, ◌+◌, List, [], ◌∷◌, take, Option, Some, None, Bool, true, false, not, ◌||◌, if◌then◌else◌, nat_le}
use Rattle.std.specs.List.{list_all, list_any}
use Rattle.fixed_form.specs.declared.label.LabelField.{LabelField}
use Rattle.fixed_form.specs.declared.label.LabelField.TheVariants.{Blank, Label, Bad}
use Rattle.fx_lists.specs.declared.code.Code.{Code}
use Rattle.fx_lists.specs.declared.code.Code.TheVariants.{NonAscii, Tab, BadLabelField, ContinuationFirst, TooManyContinuations}
use Rattle.fixed_form.specs.declared.fault.Begun.{Begun}
use Rattle.fixed_form.specs.Characters.{is_allowed, is_space, is_tab}
use Rattle.fixed_form.specs.Cards.{is_comment, card, field, columns, is_initial, label_field}
use Rattle.fixed_form.specs.Body.{quoted_after, has_tab}

-- whether a constant is open behind the last line of the statement begun before
abbrev pub is_quoted : Option Begun → Bool
is_quoted None = false
is_quoted (Some begun) = begun.quoted

-- whether one is open at column 7
abbrev pub starts_quoted : Option Begun → List ℕ → Bool
starts_quoted begun card = if is_initial card then false else is_quoted begun

abbrev pub is_bad : LabelField → Bool
is_bad Blank = false
is_bad (Label n) = false
is_bad Bad = true

-- columns 1 to 5 of an initial line hold blanks or a label, those of a continuation line blanks
abbrev pub has_bad_field : List ℕ → Bool
has_bad_field card = if is_initial card then is_bad (label_field card) else not (list_all is_space (field card))

-- a continuation line goes on with a statement that has at most eighteen so far, and so nineteen with it (§3.2.3)
abbrev pub continuation_fault : Option Begun → Option Code
continuation_fault None = Some ContinuationFirst
continuation_fault (Some begun) = if nat_le 19 begun.continuations then Some TooManyContinuations else None

-- the first fault of a statement line, behind the statement begun before it
unfoldable pub fault_of : Option Begun → List ℕ → Option Code
fault_of begun card =
    if not (list_all is_allowed card) then Some NonAscii
    else if list_any is_tab (take 6 card) || has_tab (starts_quoted begun card) (columns card) then Some Tab
    else if has_bad_field card then Some BadLabelField
    else if is_initial card then None
    else continuation_fault begun

abbrev pub continuations_of : Option Begun → ℕ
continuations_of None = 0
continuations_of (Some begun) = begun.continuations

-- what is begun behind a statement line
abbrev pub begun_behind : Option Begun → List ℕ → Begun
begun_behind begun card = record {
  quoted = quoted_after (starts_quoted begun card) (columns card);
  continuations = if is_initial card then 0 else continuations_of begun + 1;
}

abbrev pub or_later : ℕ → Option Code → Option (ℕ × Code) → Option (ℕ × Code)
or_later n None later = later
or_later n (Some fault) later = Some (n, fault)

-- the first line, from line n on, that has a fault, with its number
unfoldable pub first_fault : Option Begun → ℕ → List (List ℕ) → Option (ℕ × Code)
first_fault begun n [] = None
first_fault begun n (l ∷ ls) =
    if is_comment l then first_fault begun (n + 1) ls
    else or_later n (fault_of begun (card l)) (first_fault (Some (begun_behind begun (card l))) (n + 1) ls)
