-- How many characters the statements of a long text have: a line gives them 66 at most, and none where it is shorter than 6.
use Rattle.std.proofs.Common.{◌≡◌, ◌⊎◌, inl, inr, ℕ, ◌+◌, ◌*◌, ◌<◌, ◌≤◌, ◌^◌, Bool, true, false, List, [], ◌∷◌, ◌++◌, length, map, Option, Some, None, Result, Ok, Err, refl, ap, subst, arith, length-drop, if◌then◌else◌}
use Rattle.std.specs.Prelude.{sum_by, unwrap_or, nat_eq}
use Rattle.std.proofs.lemmas.List.Sums.{sum_by-cons}
use Rattle.fx_lists.specs.declared.code.Code.{Code}
use Rattle.fixed_form.specs.declared.line.Line.{Line}
use Rattle.fixed_form.specs.declared.line.Lines.{Lines}
use Rattle.fixed_form.specs.Characters.{is_space, upper_case, line_feed, carriage_return}
use Rattle.fixed_form.specs.TextLines.{text_lines, lines_of, onto_first, unless_return, without_returns}
use Rattle.fixed_form.specs.Cards.{front, filled, card, columns, is_comment, is_dropped, is_initial, label_field}
use Rattle.fixed_form.specs.Body.{stripped, quoted_after_byte}
use Rattle.fixed_form.specs.Faults.{first_fault}
use Rattle.fixed_form.specs.Reading.{Rest, label_of, with_comment, with_initial, with_continuation, with_line, rest_from, ends_well, outcome, reading}
use Rattle.fixed_form.proofs.CardLemmas.{length-front, length-filled}
use Rattle.f77_parser.specs.Statements.{length_of, characters}
use Rattle.f77_parser.proofs.SizeLemmas.{stripped-short, chosen, outcome-lines, room, with_line-room as line-long, with_comment-room}
use Rattle.fx_lists.proofs.Lists.{each_short, if_short}

-- ---- short lines

-- a line without column 7 is an initial line that gives nothing
abbrev IsShort : List ℕ → Type 0
IsShort l = (is_initial (card l) ≡ true) × ((more : List ℕ) → stripped false (columns (card l) ++ more) ≡ stripped false more)

short : (l : List ℕ) → IsShort l ⊎ (6 ≤ length l)
unfolding front filled
short [] = inl (refl, λ more. refl)
short (a ∷ []) = inl (refl, λ more. refl)
short (a ∷ b ∷ []) = inl (refl, λ more. refl)
short (a ∷ b ∷ c ∷ []) = inl (refl, λ more. refl)
short (a ∷ b ∷ c ∷ d ∷ []) = inl (refl, λ more. refl)
short (a ∷ b ∷ c ∷ d ∷ e ∷ []) = inl (refl, λ more. refl)
short (a ∷ b ∷ c ∷ d ∷ e ∷ f ∷ l) = inr (omega arith)

-- ---- one line

-- an initial line, whose columns and those after it give so many characters
with_initial-room : (n k : ℕ) (c : List ℕ) (rest : Rest) → length (stripped false (columns c ++ rest.more)) ≤ k + length rest.more → room (with_initial n c rest) ≤ k + room rest
with_initial-room n k c rest h =
    let s : Line = record {
      first = n;
      last = unwrap_or rest.last n;
      label = label_of (label_field c);
      body = stripped false (columns c ++ rest.more);
      comments = rest.inside;
    } in
    omega (arith, sum_by-cons length_of s rest.statements)

by_initial : (t u v : Bool) (a b c d : Rest) (n : ℕ) → v ≡ true → room a ≤ n → room b ≤ n → room c ≤ n
    → room (if t then (if u then a else b) else if v then c else d) ≤ n
by_initial true true v a b c d n e h i j = h
by_initial true false v a b c d n e h i j = i
by_initial false u true a b c d n e h i j = j
by_initial false u false a b c d n e h i j = cc

line-short : (n : ℕ) (l : List ℕ) (rest : Rest) → IsShort l → room (with_line n l rest) ≤ room rest
line-short n l rest s =
    let body : length (stripped false (columns (card l) ++ rest.more)) ≤ 0 + length rest.more =
    omega (arith, ap length (s.1 rest.more), stripped-short false rest.more) in
    by_initial (is_comment l) (is_dropped l) (is_initial (card l))
    rest (with_comment l rest) (with_initial n (card l) rest) (with_continuation n (card l) rest) (room rest) s.0
    (omega arith) (omega (arith, with_comment-room l rest))
    (omega (arith, with_initial-room n 0 (card l) rest body))

line-room : (n : ℕ) (l : List ℕ) (rest : Rest) → 7 * room (with_line n l rest) ≤ 66 * (length l + 1) + 7 * room rest
line-room n l rest = elim (short l) [
  | inl s ↦ omega (arith, line-short n l rest s)
  | inr h ↦ omega (arith, line-long n l rest, h)
]

-- ---- a text

-- the bytes of lines, each with its end
abbrev bytes : List (List ℕ) → ℕ
bytes [] = 0
bytes (l ∷ ls) = (length l + 1) + bytes ls

rest_from-room : (n : ℕ) (ls : List (List ℕ)) → 7 * room (rest_from n ls) ≤ 66 * bytes ls
unfolding rest_from
rest_from-room n [] = omega arith
rest_from-room n (l ∷ ls) = omega (arith, line-room n l (rest_from (n + 1) ls), rest_from-room (n + 1) ls)

one_of : (t : Bool) (a b : List (List ℕ)) (n : ℕ) → bytes a ≤ n → bytes b ≤ n → bytes (if t then a else b) ≤ n
one_of true a b n h i = h
one_of false a b n h i = i

onto_first-bytes : (b : ℕ) (ls : List (List ℕ)) (n : ℕ) → bytes ls ≤ n + 1 → bytes (onto_first b ls) ≤ n + 2
onto_first-bytes b [] n h = omega arith
onto_first-bytes b (l ∷ ls) n h = omega arith

lines_of-bytes : (text : List ℕ) → bytes (lines_of text) ≤ length text + 1
lines_of-bytes [] = omega arith
lines_of-bytes (b ∷ bs) =
    one_of (nat_eq b line_feed) ([] ∷ lines_of bs) (onto_first b (lines_of bs)) (length (b ∷ bs) + 1)
    (omega (arith, lines_of-bytes bs)) (omega (arith, onto_first-bytes b (lines_of bs) (length bs) (lines_of-bytes bs)))

unless_return-short : (b : ℕ) (l : List ℕ) → length (unless_return b l) ≤ length l + 1
unless_return-short b [] = if_short (nat_eq b carriage_return) [] (b ∷ []) 1 (omega arith) (omega arith)
unless_return-short b (c ∷ cs) = omega arith

without_returns-short : (l : List ℕ) → length (without_returns l) ≤ length l
without_returns-short [] = omega arith
without_returns-short (b ∷ bs) = omega (arith, unless_return-short b (without_returns bs), without_returns-short bs)

all_without : (ls : List (List ℕ)) → bytes (map without_returns ls) ≤ bytes ls
all_without [] = omega arith
all_without (l ∷ ls) = omega (arith, without_returns-short l, all_without ls)

-- seven bytes of a text give its statements at most 66 characters
characters-reading : (text : List ℕ) (lines : Lines) → reading text ≡ Ok lines → 7 * characters lines ≤ 66 * (length text + 1)
unfolding reading
characters-reading text lines h =
    let ls : List (List ℕ) = text_lines text in
    let e : (rest_from 1 ls).statements ≡ lines.lines = outcome-lines (first_fault None 1 ls) (length ls) (rest_from 1 ls) lines h in
    let f : sum_by length_of (rest_from 1 ls).statements ≡ characters lines = ap (λ (ss : List Line). sum_by length_of ss) e in
    omega (arith, f, rest_from-room 1 ls, all_without (lines_of text), lines_of-bytes text)

-- those of a text of at most 2^24 bytes are fewer than `parse` takes
pub characters-few : (text : List ℕ) (lines : Lines) → reading text ≡ Ok lines → length text ≤ 16777216 → characters lines < 2 ^ 28
characters-few text lines h i = omega (arith, characters-reading text lines h)

pub ruleset long_texts = (characters-few)
