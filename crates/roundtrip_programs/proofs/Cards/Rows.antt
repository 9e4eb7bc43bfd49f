-- A text over lines, row by row: 66 characters in each row but the last.
use Rattle.std.proofs.Common.{◌≡◌, ℕ, suc, ◌+◌, ◌-◌, ◌/◌, ◌≤◌, List, [], ◌∷◌, ◌++◌, length, map, replicate, refl, ap, sym, ◌∙◌, arith, append_assoc, append-nil, Bool, true, false, if◌then◌else◌}
use Rattle.std.specs.Prelude.{nat_eq, codes, Option}
use Rattle.std.specs.List.{list_all}
use Rattle.std.proofs.lemmas.Bool.{eqb-true, eqb-false, and_parts, and_from}
use Rattle.f77_printer.specs.Layout.{label_field, over_lines, fitted, statement_lines}
use Rattle.f77_printer.specs.PageText.{lines_text}
use Rattle.fixed_form.specs.Characters.{is_allowed}

-- ---- what stands on a line that has some characters already, and what stands on the lines behind it

abbrev pub first_row : ℕ → List ℕ → List ℕ
first_row used [] = []
first_row used (c ∷ cs) = if nat_eq used 66 then [] else c ∷ first_row (used + 1) cs

abbrev pub next_rows : ℕ → List ℕ → List (List ℕ)
next_rows used [] = []
next_rows used (c ∷ cs) = if nat_eq used 66 then (c ∷ first_row 1 cs) ∷ next_rows 1 cs else next_rows (used + 1) cs

abbrev pub continuation : List ℕ → List ℕ
continuation row = codes "     &" ++ row

pub lines_text-cons : (l : List ℕ) (ls : List (List ℕ)) → lines_text (l ∷ ls) ≡ l ++ (10 ∷ lines_text ls)
lines_text-cons l ls = append_assoc l (codes "\n") (lines_text ls)

over_at : (b : Bool) (used c : ℕ) (cs : List ℕ)
    → over_lines 1 cs ≡ first_row 1 cs ++ (10 ∷ lines_text (map continuation (next_rows 1 cs)))
    → over_lines (used + 1) cs ≡ first_row (used + 1) cs ++ (10 ∷ lines_text (map continuation (next_rows (used + 1) cs)))
    → (if b then codes "\n     &" ++ c ∷ over_lines 1 cs else c ∷ over_lines (used + 1) cs)
    ≡ (if b then [] else c ∷ first_row (used + 1) cs) ++ (10 ∷ lines_text (map continuation (if b then (c ∷ first_row 1 cs) ∷ next_rows 1 cs else next_rows (used + 1) cs)))
over_at true used c cs h g =
    ap (λ (x : List ℕ). codes "\n     &" ++ c ∷ x) h
    ∙ ap (λ (x : List ℕ). 10 ∷ x) (sym (lines_text-cons (continuation (c ∷ first_row 1 cs)) (map continuation (next_rows 1 cs))))
over_at false used c cs h g = ap (λ (x : List ℕ). c ∷ x) g

pub over_rows : (used : ℕ) (t : List ℕ) → over_lines used t ≡ first_row used t ++ (10 ∷ lines_text (map continuation (next_rows used t)))
over_rows used [] = refl
over_rows used (c ∷ cs) = over_at (nat_eq used 66) used c cs (over_rows 1 cs) (over_rows (used + 1) cs)

-- the lines of a statement
abbrev pub statement_rows : Option ℕ → List ℕ → List (List ℕ)
statement_rows label text = (label_field label ++ first_row 0 (fitted text)) ∷ map continuation (next_rows 0 (fitted text))

pub statement-rows : (label : Option ℕ) (text : List ℕ) → statement_lines label text ≡ lines_text (statement_rows label text)
statement-rows label text =
    let f : List ℕ = fitted text in
    ap (λ (x : List ℕ). label_field label ++ x) (over_rows 0 f)
    ∙ sym (append_assoc (label_field label) (first_row 0 f) (10 ∷ lines_text (map continuation (next_rows 0 f))))
    ∙ sym (lines_text-cons (label_field label ++ first_row 0 f) (map continuation (next_rows 0 f)))

-- ---- how long they are

short_at : (b : Bool) (used c : ℕ) (r : List ℕ) → nat_eq used 66 ≡ b → used ≤ 66 → (used + 1 ≤ 66 → (used + 1) + length r ≤ 66) → used + length (if b then [] else c ∷ r) ≤ 66
short_at true used c r e h f = omega arith
short_at false used c r e h f =
    let n = eqb-false used 66 e in
    let l : used + 1 ≤ 66 = omega (arith, n) in
    let g = f l in
    omega arith

pub short : (used : ℕ) (t : List ℕ) → used ≤ 66 → used + length (first_row used t) ≤ 66
short used [] h = omega arith
short used (c ∷ cs) h = short_at (nat_eq used 66) used c (first_row (used + 1) cs) refl h (λ l. short (used + 1) cs l)

pub record IsRow (r : List ℕ) : Type 0 where
  pub short : length r ≤ 66
  pub allowed : list_all is_allowed r ≡ true

abbrev pub AreRows : List (List ℕ) → Type 0
AreRows [] = Unit {0}
AreRows (r ∷ rs) = record { first : IsRow r; others : AreRows rs }

first_allowed_at : (b : Bool) (c : ℕ) (r : List ℕ) → is_allowed c ≡ true → list_all is_allowed r ≡ true → list_all is_allowed (if b then [] else c ∷ r) ≡ true
first_allowed_at true c r h g = refl
first_allowed_at false c r h g = and_from (is_allowed c) (list_all is_allowed r) h g

pub first_allowed : (used : ℕ) (t : List ℕ) → list_all is_allowed t ≡ true → list_all is_allowed (first_row used t) ≡ true
first_allowed used [] h = refl
first_allowed used (c ∷ cs) h =
    let p = and_parts (is_allowed c) (list_all is_allowed cs) h in
    first_allowed_at (nat_eq used 66) c (first_row (used + 1) cs) p.0 (first_allowed (used + 1) cs p.1)

rows_at : (b : Bool) (used c : ℕ) (cs : List ℕ) → IsRow (c ∷ first_row 1 cs) → AreRows (next_rows 1 cs) → AreRows (next_rows (used + 1) cs)
    → AreRows (if b then (c ∷ first_row 1 cs) ∷ next_rows 1 cs else next_rows (used + 1) cs)
rows_at true used c cs f g h = record { first = f; others = g }
rows_at false used c cs f g h = h

pub rows : (used : ℕ) (t : List ℕ) → list_all is_allowed t ≡ true → AreRows (next_rows used t)
rows used [] h = tt
rows used (c ∷ cs) h =
    let p = and_parts (is_allowed c) (list_all is_allowed cs) h in
    let f : IsRow (c ∷ first_row 1 cs) = record {
      short = omega (arith, short 1 cs (omega arith));
      allowed = and_from (is_allowed c) (list_all is_allowed (first_row 1 cs)) p.0 (first_allowed 1 cs p.1);
    } in
    rows_at (nat_eq used 66) used c cs f (rows 1 cs p.1) (rows (used + 1) cs p.1)

-- ---- how many they are

count_at : (b : Bool) (used c n : ℕ) (cs : List ℕ) → nat_eq used 66 ≡ b → used ≤ 66 → length (next_rows 1 cs) ≡ (1 + n - 1) / 66
    → (used + 1 ≤ 66 → length (next_rows (used + 1) cs) ≡ ((used + 1) + n - 1) / 66)
    → length (if b then (c ∷ first_row 1 cs) ∷ next_rows 1 cs else next_rows (used + 1) cs) ≡ (used + suc n - 1) / 66
count_at true used c n cs e h f g = let u = eqb-true used 66 e in omega (arith, f)
count_at false used c n cs e h f g =
    let u = eqb-false used 66 e in
    let l : used + 1 ≤ 66 = omega (arith, u) in
    let i = g l in
    omega (arith, i)

pub count : (used : ℕ) (t : List ℕ) → used ≤ 66 → length (next_rows used t) ≡ (used + length t - 1) / 66
count used [] h = omega arith
count used (c ∷ cs) h = count_at (nat_eq used 66) used c (length cs) cs refl h (count 1 cs (omega arith)) (λ l. count (used + 1) cs l)

-- ---- their columns, filled with blanks, are those of the text

-- columns 7 to 72 of a row behind some characters
abbrev pub filled_from : ℕ → List ℕ → List ℕ
filled_from used row = row ++ replicate (66 - (used + length row)) 32

abbrev pub padded : List ℕ → List ℕ
padded row = row ++ replicate (66 - length row) 32

abbrev pub joined : List (List ℕ) → List ℕ
joined [] = []
joined (r ∷ rs) = padded r ++ joined rs

abbrev pub Joins : ℕ → List ℕ → List ℕ → List (List ℕ) → Type 0
Joins used t r rs = (k : ℕ) × (filled_from used r ++ joined rs ≡ t ++ replicate k 32)

padded-cons : (c : ℕ) (r : List ℕ) → padded (c ∷ r) ≡ c ∷ filled_from 1 r
padded-cons c r =
    let e : 66 - suc (length r) ≡ 66 - (1 + length r) = omega arith in
    ap (λ (n : ℕ). c ∷ (r ++ replicate n 32)) e

filled-cons : (used c : ℕ) (r : List ℕ) → filled_from used (c ∷ r) ≡ c ∷ filled_from (used + 1) r
filled-cons used c r =
    let e : 66 - (used + suc (length r)) ≡ 66 - ((used + 1) + length r) = omega arith in
    ap (λ (n : ℕ). c ∷ (r ++ replicate n 32)) e

joins_at : (b : Bool) (used c : ℕ) (cs r s : List ℕ) (rs ss : List (List ℕ)) → nat_eq used 66 ≡ b → Joins 1 cs r rs → Joins (used + 1) cs s ss
    → Joins used (c ∷ cs) (if b then [] else c ∷ s) (if b then (c ∷ r) ∷ rs else ss)
joins_at true used c cs r s rs ss e h g =
    let z : 66 - (used + 0) ≡ 0 = let u = eqb-true used 66 e in omega arith in
    (h.0, ap (λ (n : ℕ). replicate n 32 ++ (padded (c ∷ r) ++ joined rs)) z ∙ ap (λ (x : List ℕ). x ++ joined rs) (padded-cons c r) ∙ ap (λ (x : List ℕ). c ∷ x) h.1)
joins_at false used c cs r s rs ss e h g = (g.0, ap (λ (x : List ℕ). x ++ joined ss) (filled-cons used c s) ∙ ap (λ (x : List ℕ). c ∷ x) g.1)

joins : (used : ℕ) (t : List ℕ) → Joins used t (first_row used t) (next_rows used t)
joins used [] = (66 - (used + 0), append-nil (replicate (66 - (used + 0)) 32))
joins used (c ∷ cs) = joins_at (nat_eq used 66) used c cs (first_row 1 cs) (first_row (used + 1) cs) (next_rows 1 cs) (next_rows (used + 1) cs) refl (joins 1 cs) (joins (used + 1) cs)

-- the columns of all lines are the text and blanks
pub columns_joined : (t : List ℕ) → (k : ℕ) × (padded (first_row 0 t) ++ joined (next_rows 0 t) ≡ t ++ replicate k 32)
columns_joined t =
    let j = joins 0 t in
    let e : 66 - length (first_row 0 t) ≡ 66 - (0 + length (first_row 0 t)) = omega arith in
    (j.0, ap (λ (n : ℕ). (first_row 0 t ++ replicate n 32) ++ joined (next_rows 0 t)) e ∙ j.1)
