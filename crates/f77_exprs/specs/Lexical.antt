-- Names, numbers and character constants at the front of a text.
use Rattle.std.specs.Prelude.{ℕ, ◌+◌, ◌-◌, ◌*◌, min, List, [], ◌∷◌, ◌++◌, length, Option, Some, None, Bool, true, false, not, ◌&&◌, ◌||◌, if◌then◌else◌, nat_lt, nat_eq, is_some, codes}
use Rattle.std.specs.Char.{is_ascii_digit, is_ascii_uppercase}
use Rattle.f77_exprs.specs.declared.at.Notes.{Notes}
use Rattle.f77_exprs.specs.State.{State, start, Reader, parse_word}
use Rattle.f77_exprs.specs.Words.{before}
use Rattle.f77_exprs.specs.Operators.{one_of, dotted}

-- ---- names

-- letters, digits and `_`
abbrev pub in_name : ℕ → Bool
in_name c = is_ascii_uppercase c || is_ascii_digit c || nat_eq c 95

-- a letter stands at the front
abbrev pub letter_first : List ℕ → Bool
letter_first [] = false
letter_first (c ∷ cs) = is_ascii_uppercase c

-- what is left after the characters of a name
abbrev pub skip_name : List ℕ → List ℕ
skip_name [] = []
skip_name (c ∷ cs) = if in_name c then skip_name cs else c ∷ cs

-- a name of more than 31 characters is noted
abbrev pub noted_name : List ℕ → Notes → Notes
noted_name n notes = record notes { long = notes.long || nat_lt 31 (length n) }

abbrev pub named : List ℕ → State → List ℕ × State
named n s = (n, record s { rest = skip_name s.rest; notes = noted_name n s.notes })

-- a letter and what follows it in the name
unfoldable pub name_at : Reader (List ℕ)
name_at s = if letter_first s.rest then Some (named (before s.rest (skip_name s.rest)) s) else None

-- ---- numbers

-- a digit stands at the front
abbrev pub digit_first : List ℕ → Bool
digit_first [] = false
digit_first (c ∷ cs) = is_ascii_digit c

-- what is left after digits
abbrev pub skip_digits : List ℕ → List ℕ
skip_digits [] = []
skip_digits (c ∷ cs) = if is_ascii_digit c then skip_digits cs else c ∷ cs

-- v and the digits at the front as a decimal number, 2147483648 where it is that large or larger
abbrev pub value : ℕ → List ℕ → ℕ
value v [] = v
value v (c ∷ cs) = if is_ascii_digit c then value (min 2147483648 (10 * v + (c - 48))) cs else v

-- a number past 2147483647 is noted, and 0 stands for it
abbrev pub noted_number : ℕ → Notes → Notes
noted_number v notes = record notes { big = notes.big || nat_lt 2147483647 v }

abbrev pub kept_number : ℕ → ℕ
kept_number v = if nat_lt 2147483647 v then 0 else v

-- digits alone
abbrev pub integer : State → ℕ × State
integer s = (kept_number (value 0 s.rest), record s { rest = skip_digits s.rest; notes = noted_number (value 0 s.rest) s.notes })

-- a label: digits alone
unfoldable pub label_at : Reader ℕ
label_at s = if digit_first s.rest then Some (integer s) else None

-- an operator word with both its points stands at the front
abbrev pub operator_first : List ℕ → Bool
operator_first text = is_some (parse_word (codes ".NOT.") (start text)) || is_some (one_of dotted (start text))

-- what is left after a decimal point and digits: behind digits the point may not begin an operator word, and without them a digit follows it
abbrev pub after_point : Bool → List ℕ → Option (List ℕ)
after_point had [] = None
after_point had (c ∷ cs) =
    if nat_eq c 46 && (if had then not (operator_first (c ∷ cs)) else digit_first cs) then Some (skip_digits cs) else None

abbrev pub after_digits : List ℕ → Option (List ℕ)
after_digits text = if digit_first text then Some (skip_digits text) else None

abbrev pub skip_sign : List ℕ → List ℕ
skip_sign [] = []
skip_sign (c ∷ cs) = if nat_eq c 43 || nat_eq c 45 then cs else c ∷ cs

-- what is left after `E` or `D`, an optional sign and digits
abbrev pub after_exponent : List ℕ → Option (List ℕ)
after_exponent [] = None
after_exponent (c ∷ cs) = if nat_eq c 68 || nat_eq c 69 then after_digits (skip_sign cs) else None

abbrev pub exponent_or : List ℕ → Option (List ℕ) → List ℕ
exponent_or rest (Some end) = end
exponent_or rest None = rest

abbrev pub real_end : List ℕ → Option (List ℕ) → Option (List ℕ)
real_end text (Some rest) = Some (exponent_or rest (after_exponent rest))
real_end text None = after_exponent text

-- what is left after a number with a point, an exponent or both
abbrev pub after_real : List ℕ → Option (List ℕ)
after_real text = real_end (skip_digits text) (after_point (digit_first text) (skip_digits text))

abbrev pub number_by : State → Option (List ℕ) → ℕ × State
number_by s (Some rest) = (0, record s { rest = rest; notes = record s.notes { real = true } })
number_by s None = integer s

-- a number; one with a point or an exponent is noted, and 0 stands for it
unfoldable pub number : State → ℕ × State
number s = number_by s (after_real s.rest)

-- a digit stands at the front, or a point and a digit
abbrev pub number_first : List ℕ → Bool
number_first [] = false
number_first (c ∷ cs) = is_ascii_digit c || (nat_eq c 46 && digit_first cs)

-- ---- character constants

abbrev pub with_front : List ℕ → Option (List ℕ × List ℕ) → Option (List ℕ × List ℕ)
with_front f None = None
with_front f (Some r) = Some (f ++ r.0, r.1)

-- the text of a character constant behind its first apostrophe, two apostrophes being one, and what is left after the last
abbrev pub constant : List ℕ → Option (List ℕ × List ℕ)
constant [] = None
constant (c ∷ []) = if nat_eq c 39 then Some ([], []) else None
constant (c ∷ d ∷ cs) =
    if nat_eq c 39
    then (if nat_eq d 39 then with_front (39 ∷ []) (constant cs) else Some ([], d ∷ cs))
    else with_front (c ∷ []) (constant (d ∷ cs))
