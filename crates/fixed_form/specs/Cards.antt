-- The columns of a line (ANSI X3.9-1978 §3.2).
use Rattle.std.specs.Prelude.{ℕ, ◌+◌, ◌-◌, ◌*◌, List, [], ◌∷◌, ◌++◌, length, take, drop, replicate, Bool, false, ◌&&◌, ◌||◌, if◌then◌else◌, nat_lt, nat_eq, slice_index, codes}
use Rattle.std.specs.List.{list_all, starts_with}
use Rattle.fixed_form.specs.declared.label.LabelField.{LabelField}
use Rattle.fixed_form.specs.declared.label.LabelField.TheVariants.{Blank, Label, Bad}
use Rattle.fixed_form.specs.Characters.{space, is_one_of, is_space, is_blank, is_digit, digit_number}

-- columns 1 to 72, as far as the line has them; what follows them is dropped
unfoldable pub front : List ℕ → List ℕ
front line = take 72 line

abbrev pub has_comment_mark : List ℕ → Bool
has_comment_mark [] = false
has_comment_mark (b ∷ bs) = is_one_of (codes "Cc*!") b

-- a comment has its mark in column 1, or blanks alone in columns 1 to 72
abbrev pub is_comment : List ℕ → Bool
is_comment line = has_comment_mark line || list_all is_blank (front line)

-- a comment is not kept that begins with C>, or has $ in column 2
abbrev pub is_dropped : List ℕ → Bool
is_dropped line = starts_with nat_eq line (codes "C>") || starts_with nat_eq (drop 1 line) (codes "$")

unfoldable pub filled : List ℕ → List ℕ
filled front = front ++ replicate (72 - length front) space

-- any other line as a card of 72 columns: a shorter one is filled with blanks
abbrev pub card : List ℕ → List ℕ
card line = filled (front line)

-- columns 1 to 5
abbrev pub field : List ℕ → List ℕ
field card = take 5 card

abbrev pub column_6 : List ℕ → ℕ
column_6 card = slice_index card 5

-- columns 7 to 72
abbrev pub columns : List ℕ → List ℕ
columns card = drop 6 card

-- an initial line has a blank or 0 in column 6; any other card is a continuation line
abbrev pub is_initial : List ℕ → Bool
is_initial card = is_one_of (codes " 0") (column_6 card)

-- the number that digits make behind the number v; blanks between them do not count
abbrev pub number_from : ℕ → List ℕ → ℕ
number_from v [] = v
number_from v (b ∷ bs) = number_from (if is_space b then v else 10 * v + digit_number b) bs

abbrev pub is_label_mark : ℕ → Bool
is_label_mark b = is_space b || is_digit b

abbrev pub label_number : List ℕ → ℕ
label_number card = number_from 0 (field card)

-- the label of an initial line (§3.4): digits among blanks, whose number is not 0
abbrev pub label_field : List ℕ → LabelField
label_field card =
    if list_all is_space (field card) then Blank
    else if list_all is_label_mark (field card) && nat_lt 0 (label_number card) then Label (label_number card)
    else Bad
