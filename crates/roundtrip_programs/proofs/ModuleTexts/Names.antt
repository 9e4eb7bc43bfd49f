-- Names and numbers have no parentheses and no apostrophes.
use Rattle.std.proofs.Common.{◌≡◌, ℕ, ◌+◌, ◌%◌, ◌<◌, List, [], ◌∷◌, ◌++◌, refl, ap, subst, sym, ◌∙◌, arith, Option, Some, None, Bool, true, false, if◌then◌else◌, decimal}
use Rattle.std.specs.Prelude.{nat_eq, nat_lt, ◌||◌, ◌&&◌}
use Rattle.std.specs.List.{list_all}
use Rattle.std.specs.Char.{is_ascii_digit}
use Rattle.std.proofs.lemmas.Bool.{and_from, ltb-false, ne_eqb}
use Rattle.std.proofs.lemmas.Fmt.{decimal_by_steps}
use Rattle.f77_structure.specs.Depth.{is_deep_from}
use Rattle.f77_exprs.specs.Words.{before}
use Rattle.f77_exprs.specs.State.{State}
use Rattle.f77_exprs.specs.Lexical.{in_name, letter_first, skip_name, named, name_at, digit_first, skip_digits, value, kept_number, integer, label_at, skip_sign, after_point, after_digits, after_exponent, exponent_or, real_end, after_real, number_by, number}
use Rattle.roundtrip_programs.proofs.Statements.Names.{before-append}
use Rattle.roundtrip_programs.proofs.ModuleTexts.Levels.{at, IsShallow, Leads, join, past, is_plain, plain_at, plain, plain_by}
use Rattle.roundtrip_programs.proofs.ModuleTexts.Readers.{Within, Even, Level}

-- ---- what is left of a text behind such characters

pub record Left (t r : List ℕ) : Type 0 where
  pub front : List ℕ
  pub whole : t ≡ front ++ r
  pub plain : list_all is_plain front ≡ true

pub left_shallow : {t r : List ℕ} (n : ℕ) → Left t r → IsShallow n t → IsShallow n r
left_shallow {r = r} n l h = past r (plain n l.front l.plain) (ap (is_deep_from (at n)) (sym l.whole) ∙ h)

pub before-leads : {t r : List ℕ} (n : ℕ) → Left t r → Leads n n (before t r)
before-leads {r = r} n l =
    let b = ap (λ (x : List ℕ). before x r) l.whole ∙ before-append l.front r in
    subst (λ (x : List ℕ). Leads n n x) (sym b) (plain n l.front l.plain)

left_by : (b : Bool) (c : ℕ) (cs r : List ℕ) → (b ≡ true → is_plain c ≡ true) → Left cs r → Left (c ∷ cs) (if b then r else c ∷ cs)
left_by true c cs r f h =
    record { front = c ∷ h.front; whole = ap (λ (x : List ℕ). c ∷ x) h.whole; plain = and_from (is_plain c) (list_all is_plain h.front) (f refl) h.plain }
left_by false c cs r f h = record { front = []; whole = refl; plain = refl }

name_left : (t : List ℕ) → Left t (skip_name t)
name_left [] = record { front = []; whole = refl; plain = refl }
name_left (c ∷ cs) = left_by (in_name c) c cs (skip_name cs) (plain_by in_name c refl refl refl) (name_left cs)

pub digits_left : (t : List ℕ) → Left t (skip_digits t)
digits_left [] = record { front = []; whole = refl; plain = refl }
digits_left (c ∷ cs) = left_by (is_ascii_digit c) c cs (skip_digits cs) (plain_by is_ascii_digit c refl refl refl) (digits_left cs)

-- ---- names

name_by : (b : Bool) (n : ℕ) (s : State) → IsShallow n s.rest → Within (if b then Some (named (before s.rest (skip_name s.rest)) s) else None) n (Leads n n)
name_by true n s h = let l = name_left s.rest in (before-leads n l, left_shallow n l h)
name_by false n s h = tt

pub name-even : Even name_at (Level (λ x. x))
unfolding name_at
name-even n s h = name_by (letter_first s.rest) n s h

-- ---- decimals

digit : (n m : ℕ) → m < 10 → Leads n n ((48 + m) ∷ [])
digit n m h =
    let a : nat_eq (48 + m) 39 ≡ false = ne_eqb (48 + m) 39 (λ e. omega arith) in
    let b : nat_eq (48 + m) 40 ≡ false = ne_eqb (48 + m) 40 (λ e. omega arith) in
    let d : nat_eq (48 + m) 41 ≡ false = ne_eqb (48 + m) 41 (λ e. omega arith) in
    let p : is_plain (48 + m) ≡ true = rw (a, b, d) refl in
    record { over = λ u. plain_at n (48 + m) u p }

pub decimal-leads : (n k : ℕ) → k < 2147483648 → Leads n n (decimal k)
decimal-leads n k h =
    decimal_by_steps (λ m ds. Leads n n ds) (λ m l. digit n m l) (λ m ds l x. join x (digit n (m % 10) (omega arith))) k (omega arith)

kept_by : (b : Bool) (v : ℕ) → nat_lt 2147483647 v ≡ b → (if b then 0 else v) < 2147483648
kept_by true v e = omega arith
kept_by false v e = let l = ltb-false 2147483647 v e in omega arith

pub kept_small : (v : ℕ) → kept_number v < 2147483648
kept_small v = kept_by (nat_lt 2147483647 v) v refl

label_by : (b : Bool) (n : ℕ) (s : State) → IsShallow n s.rest → Within (if b then Some (integer s) else None) n (λ k. Leads n n (decimal k))
label_by true n s h = (decimal-leads n (kept_number (value 0 s.rest)) (kept_small (value 0 s.rest)), left_shallow n (digits_left s.rest) h)
label_by false n s h = tt

pub label-even : Even label_at (Level decimal)
unfolding label_at
label-even n s h = label_by (digit_first s.rest) n s h

-- ---- numbers with a point or an exponent

abbrev Rests : ℕ → Option (List ℕ) → Type 0
Rests n None = Unit {0}
Rests n (Some r) = IsShallow n r

-- a character of a kind is left out, or all stays
without : (b : Bool) (n c : ℕ) (cs : List ℕ) → (b ≡ true → is_plain c ≡ true) → IsShallow n (c ∷ cs) → IsShallow n (if b then cs else c ∷ cs)
without true n c cs f h = sym (plain_at n c cs (f refl)) ∙ h
without false n c cs f h = h

sign_shallow : (n : ℕ) (t : List ℕ) → IsShallow n t → IsShallow n (skip_sign t)
sign_shallow n [] h = h
sign_shallow n (c ∷ cs) h = without (nat_eq c 43 || nat_eq c 45) n c cs (plain_by (λ x. nat_eq x 43 || nat_eq x 45) c refl refl refl) h

digits_rest : (b : Bool) (n : ℕ) (t : List ℕ) → IsShallow n t → Rests n (if b then Some (skip_digits t) else None)
digits_rest true n t h = left_shallow n (digits_left t) h
digits_rest false n t h = tt

exponent_by : (b : Bool) (n c : ℕ) (cs : List ℕ) → (b ≡ true → is_plain c ≡ true) → IsShallow n (c ∷ cs) → Rests n (if b then after_digits (skip_sign cs) else None)
exponent_by true n c cs f h = digits_rest (digit_first (skip_sign cs)) n (skip_sign cs) (sign_shallow n cs (without true n c cs f h))
exponent_by false n c cs f h = tt

exponent_rests : (n : ℕ) (t : List ℕ) → IsShallow n t → Rests n (after_exponent t)
exponent_rests n [] h = tt
exponent_rests n (c ∷ cs) h = exponent_by (nat_eq c 68 || nat_eq c 69) n c cs (plain_by (λ x. nat_eq x 68 || nat_eq x 69) c refl refl refl) h

exponent_shallow : (n : ℕ) (r : List ℕ) (o : Option (List ℕ)) → IsShallow n r → Rests n o → IsShallow n (exponent_or r o)
exponent_shallow n r None h x = h
exponent_shallow n r (Some e) h x = x

point_by : (a b : Bool) (n c : ℕ) (cs : List ℕ) → (a ≡ true → is_plain c ≡ true) → IsShallow n (c ∷ cs) → Rests n (if a && b then Some (skip_digits cs) else None)
point_by true true n c cs f h = left_shallow n (digits_left cs) (without true n c cs f h)
point_by true false n c cs f h = tt
point_by false b n c cs f h = tt

point_rests : (had : Bool) (n : ℕ) (t : List ℕ) → IsShallow n t → Rests n (after_point had t)
point_rests had n [] h = tt
point_rests had n (c ∷ cs) h = point_by (nat_eq c 46) _ n c cs (plain_by (λ x. nat_eq x 46) c refl refl refl) h

real_rests : (n : ℕ) (t : List ℕ) (o : Option (List ℕ)) → IsShallow n t → Rests n o → Rests n (real_end t o)
real_rests n t None h x = exponent_rests n t h
real_rests n t (Some r) h x = exponent_shallow n r (after_exponent r) x (exponent_rests n r x)

number_of : (n : ℕ) (s : State) (o : Option (List ℕ)) → IsShallow n s.rest → Rests n o → Leads n n (decimal (number_by s o).0) × IsShallow n (number_by s o).1.rest
number_of n s None h x = (decimal-leads n (kept_number (value 0 s.rest)) (kept_small (value 0 s.rest)), left_shallow n (digits_left s.rest) h)
number_of n s (Some r) h x = (decimal-leads n 0 (omega arith), x)

pub number_even : (n : ℕ) (s : State) → IsShallow n s.rest → Leads n n (decimal (number s).0) × IsShallow n (number s).1.rest
unfolding number
number_even n s h =
    let r : List ℕ = skip_digits s.rest in
    let k = left_shallow n (digits_left s.rest) h in
    number_of n s (after_real s.rest) h (real_rests n r (after_point (digit_first s.rest) r) k (point_rests (digit_first s.rest) n r k))
