-- Numbers: what reading takes as one is below 2147483648, and a decimal before what does not go on is read as its number.
use Rattle.std.proofs.Common.{◌≡◌, ℕ, ◌+◌, ◌-◌, ◌*◌, ◌/◌, ◌%◌, ◌<◌, ◌≤◌, min, List, [], ◌∷◌, ◌++◌, refl, ap, ◌∙◌, sym, arith, append_assoc, Option, Some, None, Bool, true, false, if◌then◌else◌, decimal}
use Rattle.std.specs.Prelude.{nat_lt}
use Rattle.std.specs.Char.{is_ascii_digit}
use Rattle.std.proofs.lemmas.Bool.{le-ltb, ltb-false, or_parts}
use Rattle.std.proofs.lemmas.Fmt.{decimal_by_steps}
use Rattle.f77_exprs.specs.declared.at.Notes.{Notes}
use Rattle.f77_exprs.specs.State.{State}
use Rattle.f77_exprs.specs.Lexical.{digit_first, skip_digits, value, noted_number, kept_number, integer, label_at, after_point, after_exponent, after_real, number_by, number}
use Rattle.roundtrip_programs.specs.Statements.Follows.{standing, IsClean}
use Rattle.roundtrip_programs.proofs.Statements.Readings.{After}
use Rattle.roundtrip_programs.proofs.Statements.Names.{or-false}
use Rattle.fx_lists.proofs.Numbers.{is_digit}

-- ---- a decimal before a text

-- digits that are n as a decimal number
record Spells (n : ℕ) (ds : List ℕ) : Type 0 where
  pub first : (t : List ℕ) → digit_first (ds ++ t) ≡ true
  pub digits : (t : List ℕ) → skip_digits (ds ++ t) ≡ skip_digits t
  pub value : n < 2147483648 → (t : List ℕ) → value 0 (ds ++ t) ≡ value n t

value_step : (v d n : ℕ) (t : List ℕ) → d < 10 → min 2147483648 (10 * v + (48 + d - 48)) ≡ n → value v ((48 + d) ∷ t) ≡ value n t
value_step v d n t h e =
    let b : is_ascii_digit (48 + d) ≡ true = is_digit d h in
    rw (b, e)

skip_step : (d : ℕ) (t : List ℕ) → d < 10 → skip_digits ((48 + d) ∷ t) ≡ skip_digits t
skip_step d t h =
    let b : is_ascii_digit (48 + d) ≡ true = is_digit d h in
    rw b

one_digit : (n : ℕ) → n < 10 → Spells n ((48 + n) ∷ [])
one_digit n h = record {
  first = λ t. is_digit n h;
  digits = λ t. skip_step n t h;
  value = λ l t. value_step 0 n n t h (omega arith);
}

more_digits : (n : ℕ) (ds : List ℕ) → 10 ≤ n → Spells (n / 10) ds → Spells n (ds ++ ((48 + n % 10) ∷ []))
more_digits n ds h x = record {
  first = λ t. rw append_assoc (x.first ((48 + n % 10) ∷ t));
  digits = λ t. rw append_assoc (x.digits ((48 + n % 10) ∷ t) ∙ skip_step (n % 10) t (omega arith));
  value = λ l t. rw append_assoc (x.value (omega arith) ((48 + n % 10) ∷ t) ∙ value_step (n / 10) (n % 10) n t (omega arith) (omega arith));
}

spelled : (n : ℕ) → n < 2147483648 → Spells n (decimal n)
spelled n h = decimal_by_steps Spells one_digit more_digits n (omega arith)

pub decimal_first : (n : ℕ) (t : List ℕ) → n < 2147483648 → digit_first (decimal n ++ t) ≡ true
decimal_first n t h = (spelled n h).first t

pub decimal_skipped : (n : ℕ) (t : List ℕ) → n < 2147483648 → skip_digits t ≡ t → skip_digits (decimal n ++ t) ≡ t
decimal_skipped n t h e = (spelled n h).digits t ∙ e

value_none : (n : ℕ) (t : List ℕ) → digit_first t ≡ false → value n t ≡ n
value_none n [] h = refl
value_none n (c ∷ cs) h = rw h

skip_none : (t : List ℕ) → digit_first t ≡ false → skip_digits t ≡ t
skip_none [] h = refl
skip_none (c ∷ cs) h = rw h

kept : (n : ℕ) → n < 2147483648 → kept_number n ≡ n
kept n h = let b : nat_lt 2147483647 n ≡ false = le-ltb 2147483647 n (omega arith) in rw b

noted_fits : (n : ℕ) (k : Notes) → n < 2147483648 → noted_number n k ≡ k
noted_fits n k h = ap (λ (b : Bool). record k { big = b }) (or-false k.big (nat_lt 2147483647 n) (le-ltb 2147483647 n (omega arith)))

pub integer-back : (n : ℕ) (t : List ℕ) (k : Notes) → n < 2147483648 → digit_first t ≡ false → integer (standing (decimal n ++ t) k) ≡ (n, standing t k)
integer-back n t k h e =
    let v : value 0 (decimal n ++ t) ≡ n = (spelled n h).value h t ∙ value_none n t e in
    let s : skip_digits (decimal n ++ t) ≡ t = decimal_skipped n t h (skip_none t e) in
    rw (v, s, kept n h, noted_fits n k h)

pub label-back : (n : ℕ) (t : List ℕ) (k : Notes) → n < 2147483648 → digit_first t ≡ false → label_at (standing (decimal n ++ t) k) ≡ Some (n, standing t k)
unfolding label_at
label-back n t k h e =
    let l : digit_first (decimal n ++ t) ≡ true = decimal_first n t h in
    let i : integer (standing (decimal n ++ t) k) ≡ (n, standing t k) = integer-back n t k h e in
    rw l (ap Some i)

-- neither a point nor an exponent stands behind the digits
real_none : (x t : List ℕ) → digit_first x ≡ true → skip_digits x ≡ t → after_point true t ≡ None → after_exponent t ≡ None → after_real x ≡ None
real_none x t f s p e = rw (f, s, p) e

by_none : (x : State) (o : Option (List ℕ)) → o ≡ None → number_by x o ≡ integer x
by_none x None h = refl
by_none x (Some r) h = cc

pub number-back : (n : ℕ) (t : List ℕ) (k : Notes) → n < 2147483648 → digit_first t ≡ false → after_point true t ≡ None → after_exponent t ≡ None
    → number (standing (decimal n ++ t) k) ≡ (n, standing t k)
unfolding number
number-back n t k h f p e =
    by_none (standing (decimal n ++ t) k) (after_real (decimal n ++ t)) (real_none (decimal n ++ t) t (decimal_first n t h) (decimal_skipped n t h (skip_none t f)) p e)
    ∙ integer-back n t k h f

-- ---- what is read as a number

kept_fits : (b : Bool) (v : ℕ) → b ≡ nat_lt 2147483647 v → (if b then 0 else v) < 2147483648
kept_fits true v h = omega arith
kept_fits false v h = let l = ltb-false 2147483647 v (sym h) in omega arith

integer_fits : (s : State) → (integer s).0 < 2147483648
integer_fits s = kept_fits (nat_lt 2147483647 (value 0 s.rest)) (value 0 s.rest) refl

big_clean : (v : ℕ) (k : Notes) → IsClean (noted_number v k) → IsClean k
big_clean v k h =
    let p = or_parts k.big (nat_lt 2147483647 v) h.big in
    record { real = h.real; big = p.0; long = h.long }

pub integer-formed : (s : State) → After (Some (integer s)) s.notes (λ n. n < 2147483648)
integer-formed s = λ c. (big_clean (value 0 s.rest) s.notes c, integer_fits s)

by_formed : (s : State) (o : Option (List ℕ)) → After (Some (number_by s o)) s.notes (λ n. n < 2147483648)
by_formed s None = integer-formed s
by_formed s (Some r) = λ c. cc

pub number-formed : (s : State) → After (Some (number s)) s.notes (λ n. n < 2147483648)
unfolding number
number-formed s = by_formed s (after_real s.rest)

label_formed_at : (b : Bool) (s : State) → After (if b then Some (integer s) else None) s.notes (λ n. n < 2147483648)
label_formed_at true s = integer-formed s
label_formed_at false s = tt

pub label-formed : (s : State) → After (label_at s) s.notes (λ n. n < 2147483648)
unfolding label_at
label-formed s = label_formed_at (digit_first s.rest) s
