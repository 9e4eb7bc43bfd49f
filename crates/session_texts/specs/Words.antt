-- The words of a line.
use Rattle.std.specs.Prelude.{ℕ, ◌+◌, ◌*◌, Bool, true, false, ◌&&◌, List, [], ◌∷◌, map, filter, length, nat_le, Option, Some, None, if◌then◌else◌}
use Rattle.fixed_form.specs.Characters.{is_blank, is_digit, digit_number, upper_case}
use Rattle.fixed_form.specs.TextLines.{onto_first}

-- what stands between the blanks and tabs of a line; that may be empty
abbrev pub pieces_of : List ℕ → List (List ℕ)
pieces_of [] = []
pieces_of (b ∷ bs) = if is_blank b then [] ∷ pieces_of bs else onto_first b (pieces_of bs)

abbrev pub is_word : List ℕ → Bool
is_word [] = false
is_word (b ∷ bs) = true

abbrev pub in_capitals : List ℕ → List ℕ
in_capitals word = map upper_case word

-- the pieces that are not empty, in capitals
abbrev pub words_of : List ℕ → List (List ℕ)
words_of line = map in_capitals (filter is_word (pieces_of line))

-- the number that digits write after those of another; None where a character is no digit
abbrev pub digits_after : ℕ → List ℕ → Option ℕ
digits_after n [] = Some n
digits_after n (b ∷ bs) = if is_digit b then digits_after (10 * n + digit_number b) bs else None

-- a number of one to seven digits
abbrev pub count_of : List ℕ → Option ℕ
count_of word = if nat_le 1 (length word) && nat_le (length word) 7 then digits_after 0 word else None
