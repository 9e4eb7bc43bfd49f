-- The laws of what reading gives.
use Rattle.std.proofs.Common.{◌≡◌, ℕ, suc, zero, ◌+◌, ◌*◌, ◌-◌, ◌<◌, ◌≤◌, ◌^◌, List, [], ◌∷◌, length, refl, ap, subst, arith, Option, Some, None, Bool, true, false, ◌&&◌, if◌then◌else◌, nat_lt, nat_eq, Result, Ok, Err}
use Rattle.std.proofs.lemmas.Bool.Decides.{nat_tests}
use Rattle.std.proofs.lemmas.List.{length-take, length-map}
use Rattle.std.proofs.lemmas.List.Elements.{All-nil, All-cons}
use Rattle.std.proofs.lemmas.List.Kept.{AllPairs-cons}
use Rattle.std.specs.Prelude.{unwrap_or, is_some, IfSome, IfOk, All}
use Rattle.std.specs.List.{list_all}
use Rattle.fx_lists.specs.declared.code.Code.{Code}
use Rattle.fixed_form.specs.declared.label.LabelField.TheVariants.{Blank, Label, Bad}
use Rattle.fixed_form.specs.declared.line.Line.{Line}
use Rattle.fixed_form.specs.declared.line.Lines.{Lines}
use Rattle.fixed_form.specs.declared.line.ReadRefusal.{ReadRefusal}
use Rattle.fixed_form.specs.TextLines.{text_lines, lines_of, onto_first, without_returns}
use Rattle.fixed_form.specs.Characters.{is_space}
use Rattle.fixed_form.specs.Cards.{is_comment, is_dropped, card, is_initial, field, number_from, is_label_mark, label_number, label_field}
use Rattle.fixed_form.specs.Faults.{first_fault}
use Rattle.fixed_form.specs.Reading.{Rest, before_statements, with_comment, with_initial, with_continuation, label_of, rest_from, ends_well, outcome, reading, Gives}
use Rattle.fixed_form.specs.Laws.{Ascend, IsLabel, AreLabelled, AreSmall, AreSpans, IsRead}
use Rattle.fx_lists.proofs.Booleans.{same_left, same_right}

-- Labels

-- the largest number that k more digits make
abbrev pub most : ℕ → ℕ → ℕ
most zero v = v
most (suc k) v = most k (10 * v + 9)

pub most-le : (k v w : ℕ) → v ≤ w → most k v ≤ most k w
most-le zero v w h = h
most-le (suc k) v w h = most-le k (10 * v + 9) (10 * w + 9) (omega arith)

digit-le : (v b : ℕ) → is_label_mark b ≡ true → (if is_space b then v else 10 * v + (b - 48)) ≤ 10 * v + 9
digit-le v b h = grind (arith, nat_tests)

pub number_from-le : (v : ℕ) (bs : List ℕ) → list_all is_label_mark bs ≡ true → number_from v bs ≤ most (length bs) v
number_from-le v [] h = omega arith
number_from-le v (b ∷ bs) h =
    let digit = digit-le v b (same_left (is_label_mark b) (list_all is_label_mark bs) h) in
    let rest = number_from-le (if is_space b then v else 10 * v + (b - 48)) bs (same_right (is_label_mark b) (list_all is_label_mark bs) h) in
    let more = most-le (length bs) _ _ digit in
    omega (arith, rest, more)

pub most-small : (k : ℕ) → k ≤ 5 → most k 0 ≤ 99999
most-small zero h = omega arith
most-small (suc zero) h = omega arith
most-small (suc (suc zero)) h = omega arith
most-small (suc (suc (suc zero))) h = omega arith
most-small (suc (suc (suc (suc zero)))) h = omega arith
most-small (suc (suc (suc (suc (suc zero))))) h = omega arith
most-small (suc (suc (suc (suc (suc (suc k)))))) h = absurd (omega arith)

label_number-le : (card : List ℕ) → list_all is_label_mark (field card) ≡ true → label_number card ≤ 99999
label_number-le card h =
    omega (arith, number_from-le 0 (field card) h, most-small (length (field card)) (omega (arith, length-take {A = ℕ} 5 card)))

label-by : (a b c : Bool) (n : ℕ) → (b ≡ true → n ≤ 99999) → (c ≡ true → 0 < n)
    → IfSome (label_of (if a then Blank else if b && c then Label n else Bad)) IsLabel
label-by true b c n h k = tt
label-by false true true n h k = (omega (arith, k refl), h refl)
label-by false true false n h k = tt
label-by false false c n h k = tt

above : (n : ℕ) → nat_lt 0 n ≡ true → 0 < n
above n h = grind (arith, nat_tests)

label-IsLabel : (card : List ℕ) → IfSome (label_of (label_field card)) IsLabel
label-IsLabel card =
    label-by (list_all is_space (field card)) (list_all is_label_mark (field card)) (nat_lt 0 (label_number card)) (label_number card)
    (label_number-le card) (above (label_number card))

-- Numbers

pub record IsFine (n m : ℕ) (s : Line) : Type 0 where
  pub first : n ≤ s.first
  pub last : s.first ≤ s.last
  pub small : s.last < m
  pub labelled : IfSome s.label IsLabel

-- statements from line n on, one after another, before line m
abbrev pub AreFine : ℕ → ℕ → List Line → Type 0
AreFine n m [] = Unit {0}
AreFine n m (s ∷ ss) = IsFine n m s × AreFine (s.first + 1) m ss

AreFine-le : (n k m : ℕ) (ss : List Line) → n ≤ k → AreFine k m ss → AreFine n m ss
AreFine-le n k m [] h f = tt
AreFine-le n k m (s ∷ ss) h f = (record { first = omega (arith, f.0.first); last = f.0.last; small = f.0.small; labelled = f.0.labelled }, f.1)

abbrev pub IsWithin : ℕ → ℕ → Option ℕ → Type 0
IsWithin n m o = IfSome o (λ l. (n ≤ l) × (l < m))

IsWithin-le : (n k m : ℕ) (o : Option ℕ) → n ≤ k → IsWithin k m o → IsWithin n m o
IsWithin-le n k m None h w = tt
IsWithin-le n k m (Some l) h w = (omega arith, w.1)

pub record AreWithin (n m : ℕ) (rest : Rest) : Type 0 where
  pub last : IsWithin n m rest.last
  pub statements : AreFine n m rest.statements

comment-fine : (n m : ℕ) (t : Bool) (c : List ℕ) (ss : List Line) (closing : List (List ℕ)) (rest : Rest) → AreFine n m ss → AreWithin n m rest
    → AreWithin n m (if t then record rest { inside = c ∷ rest.inside } else before_statements c ss closing rest)
comment-fine n m true c ss closing rest f w = record { last = w.last; statements = w.statements }
comment-fine n m false c [] closing rest f w = record { last = w.last; statements = w.statements }
comment-fine n m false c (s ∷ ss) closing rest f w =
    record { last = w.last; statements = (record { first = f.0.first; last = f.0.last; small = f.0.small; labelled = f.0.labelled }, f.1) }

last-within : (n m : ℕ) (o : Option ℕ) → n < m → IsWithin (n + 1) m o → (n ≤ unwrap_or o n) × (unwrap_or o n < m)
last-within n m None h w = (omega arith, h)
last-within n m (Some l) h w = (omega arith, w.1)

line-fine : (b d i : Bool) (n m : ℕ) (line card : List ℕ) (rest : Rest) → n < m → AreWithin (n + 1) m rest
    → AreWithin n m (if b then (if d then rest else with_comment line rest) else (if i then with_initial n card rest else with_continuation n card rest))
line-fine true true i n m line card rest h w = record {
  last = IsWithin-le n (n + 1) m rest.last (omega arith) w.last;
  statements = AreFine-le n (n + 1) m rest.statements (omega arith) w.statements;
}
line-fine true false i n m line card rest h w =
    let here : AreWithin n m rest = record {
      last = IsWithin-le n (n + 1) m rest.last (omega arith) w.last;
      statements = AreFine-le n (n + 1) m rest.statements (omega arith) w.statements;
    } in
    comment-fine n m (is_some rest.last) line rest.statements rest.closing rest here.statements here
line-fine false d true n m line card rest h w =
    let last = last-within n m rest.last h w.last in
    record {
      last = tt;
      statements = (record { first = omega arith; last = last.0; small = last.1; labelled = label-IsLabel card }, w.statements);
    }
line-fine false d false n m line card rest h w = record {
  last = last-within n m rest.last h w.last;
  statements = AreFine-le n (n + 1) m rest.statements (omega arith) w.statements;
}

rest-fine : (ls : List (List ℕ)) (n m : ℕ) → n + length ls ≤ m → AreWithin n m (rest_from n ls)
unfolding rest_from
rest-fine [] n m h = record { last = tt; statements = tt }
rest-fine (l ∷ ls) n m h =
    line-fine (is_comment l) (is_dropped l) (is_initial (card l)) n m l (card l) (rest_from (n + 1) ls) (omega arith) (rest-fine ls (n + 1) m (omega arith))

-- Lines are no more than characters

pub length-onto_first : (b : ℕ) (ls : List (List ℕ)) → length (onto_first b ls) ≤ length ls + 1
length-onto_first b [] = omega arith
length-onto_first b (l ∷ ls) = omega arith

length-choice : (t : Bool) (b : ℕ) (ls : List (List ℕ)) (k : ℕ) → length ls ≤ k → length (if t then [] ∷ ls else onto_first b ls) ≤ k + 1
length-choice true b ls k h = omega arith
length-choice false b ls k h = omega (arith, length-onto_first b ls)

pub length-lines_of : (text : List ℕ) → length (lines_of text) ≤ length text
length-lines_of [] = omega arith
length-lines_of (b ∷ bs) = omega (arith, length-choice (nat_eq b 10) b (lines_of bs) (length bs) (length-lines_of bs))

length-text_lines : (text : List ℕ) → length (text_lines text) ≤ length text
length-text_lines text = omega (arith, length-lines_of text, length-map (lines_of text) without_returns)

-- The laws

later : (a n m : ℕ) (ss : List Line) → a < n → AreFine n m ss → All (λ t. a < t.first) ss
later a n m [] h f = All-nil _
later a n m (s ∷ ss) h f =
    All-cons (λ t. a < t.first) s ss (omega (arith, f.0.first)) (later a (s.first + 1) m ss (omega (arith, f.0.first)) f.1)

ascend : (n m : ℕ) (ss : List Line) → AreFine n m ss → Ascend ss
ascend n m [] f = λ i j d h k. absurd (omega arith)
ascend n m (s ∷ ss) f =
    AllPairs-cons (λ s t. s.first < t.first) s ss (later s.first (s.first + 1) m ss (omega arith) f.1) (ascend (s.first + 1) m ss f.1)

labelled : (n m : ℕ) (ss : List Line) → AreFine n m ss → AreLabelled ss
labelled n m [] f = All-nil _
labelled n m (s ∷ ss) f = All-cons (λ s. IfSome s.label IsLabel) s ss f.0.labelled (labelled (s.first + 1) m ss f.1)

small : (n : ℕ) (ss : List Line) → AreFine n (2 ^ 28) ss → AreSmall ss
small n [] f = All-nil _
small n (s ∷ ss) f =
    All-cons (λ s. (s.first < 2 ^ 28) × (s.last < 2 ^ 28)) s ss (omega (arith, f.0.last, f.0.small), f.0.small) (small (s.first + 1) ss f.1)

spans : (n : ℕ) (ss : List Line) → 1 ≤ n → AreFine n (2 ^ 28) ss → AreSpans ss
spans n [] h f = All-nil _
spans n (s ∷ ss) h f =
    All-cons (λ s. (1 ≤ s.first) × (s.first ≤ s.last)) s ss (omega (arith, f.0.first), f.0.last) (spans (s.first + 1) ss (omega arith) f.1)

ok-lines : (b : Bool) (ss : List Line) (closing : List (List ℕ)) (e : ℕ × ℕ) (read : Lines)
    → (if b then Ok (record { lines = ss; closing = closing }) else Err e) ≡ Ok read → (b ≡ true) × (ss ≡ read.lines)
ok-lines true ss closing e read h =
    let same : record { lines = ss; closing = closing } ≡ read = cc in
    (refl, ap (λ x. x.lines) same)
ok-lines false ss closing e read h = cc

lawful-lines : (ss : List Line) → AreFine 1 (2 ^ 28) ss → ends_well ss ≡ true → IsRead ss × AreSpans ss
lawful-lines ss f e = (
  record {
    ascend = ascend 1 (2 ^ 28) ss f;
    labelled = labelled 1 (2 ^ 28) ss f;
    small = small 1 ss f;
    ended = e;
  },
  spans 1 ss (omega arith) f,
)

lawful-by : (o : Option (ℕ × Code)) (last : ℕ) (rest : Rest) (read : Lines) → AreFine 1 (2 ^ 28) rest.statements
    → outcome o last rest ≡ Ok read → IsRead read.lines × AreSpans read.lines
lawful-by (Some found) last rest read f h = cc
lawful-by None last rest read f h =
    let ok = ok-lines (ends_well rest.statements) rest.statements rest.closing _ read h in
    subst (λ ss. IsRead ss × AreSpans ss) ok.1 (lawful-lines rest.statements f ok.0)

lawful : (text : List ℕ) (read : Lines) → length text < 2 ^ 28 → reading text ≡ Ok read → IsRead read.lines × AreSpans read.lines
unfolding reading
lawful text read small h =
    lawful-by (first_fault None 1 (text_lines text)) (length (text_lines text)) (rest_from 1 (text_lines text)) read
    (rest-fine (text_lines text) 1 (2 ^ 28) (omega (arith, length-text_lines text))).statements h

pub given-lawful : (r : Result Lines ReadRefusal) (text : List ℕ) → length text < 2 ^ 28 → Gives r (reading text) → IfOk r (λ read. IsRead read.lines)
given-lawful (Ok read) text small h = (lawful text read small h).0
given-lawful (Err e) text small h = tt

pub given-spans : (r : Result Lines ReadRefusal) (text : List ℕ) → length text < 2 ^ 28 → Gives r (reading text) → IfOk r (λ read. AreSpans read.lines)
given-spans (Ok read) text small h = (lawful text read small h).1
given-spans (Err e) text small h = tt
