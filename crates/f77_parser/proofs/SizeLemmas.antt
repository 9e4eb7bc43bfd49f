-- How many characters the statements of a text have: a line gives them its columns 7 to 72 at most.
use Rattle.std.proofs.Common.{◌≡◌, ℕ, ◌+◌, ◌*◌, ◌<◌, ◌≤◌, ◌^◌, Bool, true, false, List, [], ◌∷◌, ◌++◌, length, Option, Some, None, Result, Ok, Err, refl, ap, sym, arith, length-append, length-drop, if◌then◌else◌}
use Rattle.std.specs.Prelude.{sum_by, is_some, unwrap_or}
use Rattle.std.proofs.lemmas.List.{length-map}
use Rattle.std.proofs.lemmas.List.Sums.{sum_by-cons}
use Rattle.fx_lists.specs.declared.code.Code.{Code}
use Rattle.fixed_form.specs.declared.line.Line.{Line}
use Rattle.fixed_form.specs.declared.line.Lines.{Lines}
use Rattle.fixed_form.specs.Characters.{is_space, upper_case}
use Rattle.fixed_form.specs.TextLines.{text_lines, lines_of, without_returns}
use Rattle.fixed_form.specs.Cards.{front, card, columns, is_comment, is_dropped, is_initial, label_field}
use Rattle.fixed_form.specs.Body.{stripped, quoted_after_byte}
use Rattle.fixed_form.specs.Faults.{first_fault}
use Rattle.fixed_form.specs.Reading.{Rest, label_of, before_statements, with_comment, with_initial, with_continuation, with_line, rest_from, ends_well, outcome, reading}
use Rattle.fixed_form.proofs.CardLemmas.{length-front, length-filled}
use Rattle.f77_parser.specs.Statements.{length_of, characters}
use Rattle.fixed_form.proofs.LawLemmas.{length-lines_of as lines_of-short}
use Rattle.fx_lists.proofs.Lists.{each_short}

-- ---- one line

-- blanks are dropped, and nothing comes in their place
pub stripped-short : (q : Bool) (bs : List ℕ) → length (stripped q bs) ≤ length bs
stripped-short q [] = omega arith
stripped-short q (b ∷ bs) =
    each_short q (is_space b) (b ∷ stripped (quoted_after_byte q b) bs) (stripped q bs) (upper_case b ∷ stripped (quoted_after_byte q b) bs) (length (b ∷ bs))
    (omega (arith, stripped-short (quoted_after_byte q b) bs))
    (omega (arith, stripped-short q bs))
    (omega (arith, stripped-short (quoted_after_byte q b) bs))

pub columns-66 : (l : List ℕ) → length (columns (card l)) ≡ 66
columns-66 l = omega (arith, length-drop 6 (card l), length-filled (front l) (length-front l))

-- ---- what some lines give

-- the characters of the statements that begin in some lines, and of the columns for one that began before them
abbrev pub room : Rest → ℕ
room rest = sum_by length_of rest.statements + length rest.more

pub before_statements-room : (c : List ℕ) (ss : List Line) (cs : List (List ℕ)) (rest : Rest) → rest.statements ≡ ss
    → room (before_statements c ss cs rest) ≡ room rest
before_statements-room c [] cs rest e = refl
before_statements-room c (s ∷ ss) cs rest e = ap (λ (all : List Line). sum_by length_of all + length rest.more) (sym e)

pub by_last : (t : Bool) (a b : Rest) (n : ℕ) → room a ≡ n → room b ≡ n → room (if t then a else b) ≡ n
by_last true a b n h i = h
by_last false a b n h i = i

pub with_comment-room : (c : List ℕ) (rest : Rest) → room (with_comment c rest) ≡ room rest
with_comment-room c rest =
    by_last (is_some rest.last) (record rest { inside = c ∷ rest.inside }) (before_statements c rest.statements rest.closing rest) (room rest)
    refl (before_statements-room c rest.statements rest.closing rest refl)

pub with_initial-room : (n : ℕ) (c : List ℕ) (rest : Rest) → length (columns c) ≡ 66 → room (with_initial n c rest) ≤ 66 + room rest
with_initial-room n c rest h =
    let s : Line = record {
      first = n;
      last = unwrap_or rest.last n;
      label = label_of (label_field c);
      body = stripped false (columns c ++ rest.more);
      comments = rest.inside;
    } in
    omega (arith, sum_by-cons length_of s rest.statements, stripped-short false (columns c ++ rest.more), length-append (columns c) rest.more)

pub with_continuation-room : (n : ℕ) (c : List ℕ) (rest : Rest) → length (columns c) ≡ 66 → room (with_continuation n c rest) ≤ 66 + room rest
with_continuation-room n c rest h = omega (arith, length-append (columns c) rest.more)

pub by_line : (t u v : Bool) (a b c d : Rest) (n : ℕ) → room a ≤ n → room b ≤ n → room c ≤ n → room d ≤ n
    → room (if t then (if u then a else b) else if v then c else d) ≤ n
by_line true true v a b c d n h i j k = h
by_line true false v a b c d n h i j k = i
by_line false u true a b c d n h i j k = j
by_line false u false a b c d n h i j k = k

pub with_line-room : (n : ℕ) (l : List ℕ) (rest : Rest) → room (with_line n l rest) ≤ 66 + room rest
with_line-room n l rest =
    by_line (is_comment l) (is_dropped l) (is_initial (card l))
    rest (with_comment l rest) (with_initial n (card l) rest) (with_continuation n (card l) rest) (66 + room rest)
    (omega arith) (omega (arith, with_comment-room l rest))
    (with_initial-room n (card l) rest (columns-66 l)) (with_continuation-room n (card l) rest (columns-66 l))

rest_from-room : (n : ℕ) (ls : List (List ℕ)) → room (rest_from n ls) ≤ 66 * length ls
unfolding rest_from
rest_from-room n [] = omega arith
rest_from-room n (l ∷ ls) = omega (arith, with_line-room n l (rest_from (n + 1) ls), rest_from-room (n + 1) ls)

-- ---- a text

one_more : (t : Bool) (a b : List (List ℕ)) (n : ℕ) → length a ≤ n → length b ≤ n → length (if t then a else b) ≤ n
one_more true a b n h i = h
one_more false a b n h i = i

pub chosen : (t : Bool) (a b : Lines) (e : ℕ × ℕ) → (let r : Result Lines (ℕ × ℕ) = if t then Ok a else Err e in r) ≡ Ok b → a ≡ b
chosen true a b e h = cc
chosen false a b e h = cc

pub outcome-lines : (found : Option (ℕ × Code)) (last : ℕ) (rest : Rest) (lines : Lines) → outcome found last rest ≡ Ok lines → rest.statements ≡ lines.lines
outcome-lines (Some f) last rest lines h = cc
outcome-lines None last rest lines h = ap (λ (ls : Lines). ls.lines) (chosen (ends_well rest.statements) _ lines _ h)

-- the statements of a text have at most 66 characters for each of its bytes
pub characters-reading : (text : List ℕ) (lines : Lines) → reading text ≡ Ok lines → characters lines ≤ 66 * length text
unfolding reading
characters-reading text lines h =
    let ls : List (List ℕ) = text_lines text in
    let e : (rest_from 1 ls).statements ≡ lines.lines = outcome-lines (first_fault None 1 ls) (length ls) (rest_from 1 ls) lines h in
    let f : sum_by length_of (rest_from 1 ls).statements ≡ characters lines = ap (λ (ss : List Line). sum_by length_of ss) e in
    omega (arith, f, rest_from-room 1 ls, length-map (lines_of text) without_returns, lines_of-short text)

-- those of a text of at most 4 MB are fewer than `parse` takes
pub characters-few : (text : List ℕ) (lines : Lines) → reading text ≡ Ok lines → length text ≤ 4000000 → characters lines < 2 ^ 28
characters-few text lines h i = omega (arith, characters-reading text lines h)

pub ruleset short_texts = (characters-few)
