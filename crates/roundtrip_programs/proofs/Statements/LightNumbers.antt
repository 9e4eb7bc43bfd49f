-- Names, numbers and constants are written with no more than what was read.
use Rattle.std.proofs.Common.{◌≡◌, ℕ, zero, suc, ◌+◌, ◌-◌, ◌*◌, ◌^◌, ◌<◌, ◌≤◌, min, List, [], ◌∷◌, ◌++◌, length, refl, ap, subst, sym, ◌∙◌, arith, Option, Some, None, Bool, true, false, if◌then◌else◌, decimal, ◌&&◌, ◌||◌}
use Rattle.std.specs.Prelude.{nat_eq, nat_le, nat_lt}
use Rattle.std.specs.List.{list_all}
use Rattle.std.specs.Char.{is_ascii_digit}
use Rattle.std.proofs.lemmas.Bool.{le-leb, and_from, and_parts, ltb-false, eqb-true}
use Rattle.std.proofs.lemmas.Fmt.{decimal_digit, length-decimal-le}
use Rattle.f77_exprs.specs.Words.{before}
use Rattle.f77_exprs.specs.State.{State}
use Rattle.f77_exprs.specs.Lexical.{in_name, letter_first, skip_name, named, name_at, digit_first, skip_digits, value, kept_number, integer, label_at, skip_sign, after_point, after_digits, after_exponent, exponent_or, real_end, after_real, number_by, number, number_first}
use Rattle.roundtrip_programs.specs.Cards.Good.{is_printable}
use Rattle.roundtrip_programs.proofs.Cards.Fields.{decimal_printable}
use Rattle.roundtrip_programs.specs.Statements.Weights.{Weight, weigh}
use Rattle.roundtrip_programs.proofs.Statements.Characters.{digit_range}
use Rattle.roundtrip_programs.proofs.Statements.Names.{before-append}
use Rattle.roundtrip_programs.proofs.Statements.Weighing.{weigh-append, Within, Light}
use Rattle.fx_lists.proofs.Numbers.{power-more}

-- what is left of a text
abbrev pub Left : List ℕ → List ℕ → Type 0
Left t r = (p : List ℕ) × (t ≡ p ++ r)

left_by : (b : Bool) (c : ℕ) (cs r : List ℕ) → Left cs r → Left (c ∷ cs) (if b then r else c ∷ cs)
left_by true c cs r h = (c ∷ h.0, ap (λ (x : List ℕ). c ∷ x) h.1)
left_by false c cs r h = ([], refl)

name_left : (t : List ℕ) → Left t (skip_name t)
name_left [] = ([], refl)
name_left (c ∷ cs) = left_by (in_name c) c cs (skip_name cs) (name_left cs)

pub digits_left : (t : List ℕ) → Left t (skip_digits t)
digits_left [] = ([], refl)
digits_left (c ∷ cs) = left_by (is_ascii_digit c) c cs (skip_digits cs) (digits_left cs)

-- how many digits stand at the front
abbrev count : List ℕ → ℕ
count [] = 0
count (c ∷ cs) = if is_ascii_digit c then suc (count cs) else 0

count_some : (t : List ℕ) → digit_first t ≡ true → 0 < count t
count_some [] h = cc
count_some (c ∷ cs) h = rw h (omega arith)

-- ---- their value has no more digits

grown : (v c m : ℕ) → v < 10 ^ m → is_ascii_digit c ≡ true → min 2147483648 (10 * v + (c - 48)) < 10 ^ (m + 1)
grown v c m h d = let r = digit_range c d in let p = power-more m in omega arith

below_at : (b : Bool) (v c m : ℕ) (cs : List ℕ) → is_ascii_digit c ≡ b → v < 10 ^ m → ((x k : ℕ) → x < 10 ^ k → value x cs < 10 ^ (k + count cs))
    → (if b then value (min 2147483648 (10 * v + (c - 48))) cs else v) < 10 ^ (m + (if b then suc (count cs) else 0))
below_at true v c m cs e h f =
    let z : (m + 1) + count cs ≡ m + suc (count cs) = omega arith in
    let g = f (min 2147483648 (10 * v + (c - 48))) (m + 1) (grown v c m h e) in
    subst (λ (k : ℕ). value (min 2147483648 (10 * v + (c - 48))) cs < 10 ^ k) z g
below_at false v c m cs e h f = let z : m ≡ m + 0 = omega arith in subst (λ (k : ℕ). v < 10 ^ k) z h

value_below : (t : List ℕ) (v m : ℕ) → v < 10 ^ m → value v t < 10 ^ (m + count t)
value_below [] v m h = let z : m ≡ m + 0 = omega arith in subst (λ (k : ℕ). v < 10 ^ k) z h
value_below (c ∷ cs) v m h = below_at (is_ascii_digit c) v c m cs refl h (λ x k g. value_below cs x k g)

kept_le : (b : Bool) (v : ℕ) → nat_lt 2147483647 v ≡ b → ((if b then 0 else v) ≤ v) × ((if b then 0 else v) < 2147483648)
kept_le true v e = (omega arith, omega arith)
kept_le false v e = let l = ltb-false 2147483647 v e in (omega arith, omega arith)

number_digits : (t : List ℕ) → digit_first t ≡ true → (length (decimal (kept_number (value 0 t))) ≤ count t) × (kept_number (value 0 t) < 2147483648)
number_digits t h =
    let k = kept_le (nat_lt 2147483647 (value 0 t)) (value 0 t) refl in
    let z : 0 + count t ≡ count t = omega arith in
    let o : 0 < 10 ^ 0 = omega arith in
    let b : value 0 t < 10 ^ count t = subst (λ (n : ℕ). value 0 t < 10 ^ n) z (value_below t 0 0 o) in
    (length-decimal-le (count t) (kept_number (value 0 t)) (count_some t h) (omega (arith, k.0)) (omega (arith, k.1)), k.1)

module _ (w : Weight) where
  pub before_weight : (t r : List ℕ) → Left t r → weigh w (before t r) + weigh w r ≡ weigh w t
  before_weight t r h =
      let b : before t r ≡ h.0 = ap (λ (x : List ℕ). before x r) h.1 ∙ before-append h.0 r in
      ap (λ (x : List ℕ). weigh w x + weigh w r) b ∙ sym (weigh-append w h.0 r) ∙ ap (weigh w) (sym h.1)

  left_weight : (t r : List ℕ) → Left t r → weigh w r ≤ weigh w t
  left_weight t r h = omega (arith, ap (weigh w) h.1, weigh-append w h.0 r)

  -- ---- names

  name_by : (b : Bool) (s : State) (n : List ℕ) (e : ℕ) → weigh w n + weigh w (skip_name s.rest) ≡ weigh w s.rest → Within w (if b then Some (named n s) else None) (e + weigh w s.rest) (λ a. e + weigh w a)
  name_by true s n e h = omega arith
  name_by false s n e h = tt

  pub name-light : Light w name_at (weigh w)
  unfolding name_at
  name-light e s = name_by (letter_first s.rest) s (before s.rest (skip_name s.rest)) e (before_weight s.rest (skip_name s.rest) (name_left s.rest))

  -- ---- digits

  -- so many printable characters
  abbrev load : ℕ → ℕ
  load zero = 0
  load (suc n) = w.each + load n

  load-le : (n m : ℕ) → n ≤ m → load n ≤ load m
  load-le zero m h = omega arith
  load-le (suc n) zero h = absurd (omega arith)
  load-le (suc n) (suc m) h = let i = load-le n m (omega arith) in omega arith

  printable_load : (t : List ℕ) → list_all is_printable t ≡ true → weigh w t ≡ load (length t)
  printable_load [] h = refl
  printable_load (c ∷ cs) h =
      let p = and_parts (is_printable c) (list_all is_printable cs) h in
      omega (arith, w.even c p.0, printable_load cs p.1)

  digit_printable : (c : ℕ) → is_ascii_digit c ≡ true → w.of c ≡ w.each
  digit_printable c h =
      let r = digit_range c h in
      let a : nat_le 32 c ≡ true = le-leb 32 c (omega arith) in
      let b : nat_le c 126 ≡ true = le-leb c 126 (omega arith) in
      w.even c (and_from (nat_le 32 c) (nat_le c 126) a b)

  count_at : (b : Bool) (c : ℕ) (cs : List ℕ) → is_ascii_digit c ≡ b → weigh w cs ≡ load (count cs) + weigh w (skip_digits cs)
      → w.of c + weigh w cs ≡ load (if b then suc (count cs) else 0) + weigh w (if b then skip_digits cs else c ∷ cs)
  count_at true c cs e h = omega (arith, digit_printable c e)
  count_at false c cs e h = omega arith

  count_weight : (t : List ℕ) → weigh w t ≡ load (count t) + weigh w (skip_digits t)
  count_weight [] = omega arith
  count_weight (c ∷ cs) = count_at (is_ascii_digit c) c cs refl (count_weight cs)

  digits_light : (t : List ℕ) → digit_first t ≡ true → weigh w (decimal (kept_number (value 0 t))) + weigh w (skip_digits t) ≤ weigh w t
  digits_light t h =
      let d = number_digits t h in
      let p = printable_load (decimal (kept_number (value 0 t))) (decimal_printable (kept_number (value 0 t)) d.1) in
      let l = load-le (length (decimal (kept_number (value 0 t)))) (count t) d.0 in
      let c = count_weight t in
      omega arith

  label_by : (b : Bool) (s : State) (e : ℕ) → digit_first s.rest ≡ b → Within w (if b then Some (integer s) else None) (e + weigh w s.rest) (λ n. e + weigh w (decimal n))
  label_by true s e h = let d = digits_light s.rest h in omega arith
  label_by false s e h = tt

  pub label-light : Light w label_at (λ n. weigh w (decimal n))
  unfolding label_at
  label-light e s = label_by (digit_first s.rest) s e refl

  -- ---- numbers with a point or an exponent, for which 0 stands

  abbrev Below : ℕ → Option (List ℕ) → Type 0
  Below b None = Unit {0}
  Below b (Some r) = weigh w r ≤ b

  below_if : (b : Bool) (t : List ℕ) (m : ℕ) → weigh w t ≤ m → Below m (if b then Some t else None)
  below_if true t m h = h
  below_if false t m h = tt

  sign_at : (b : Bool) (c : ℕ) (cs : List ℕ) → weigh w (if b then cs else c ∷ cs) ≤ w.of c + weigh w cs
  sign_at true c cs = omega arith
  sign_at false c cs = omega arith

  sign_light : (t : List ℕ) → weigh w (skip_sign t) ≤ weigh w t
  sign_light [] = omega arith
  sign_light (c ∷ cs) = sign_at (nat_eq c 43 || nat_eq c 45) c cs

  exponent_at : (b : Bool) (c : ℕ) (cs : List ℕ) → Below (w.of c + weigh w cs) (if b then after_digits (skip_sign cs) else None)
  exponent_at true c cs =
      below_if (digit_first (skip_sign cs)) (skip_digits (skip_sign cs)) (w.of c + weigh w cs)
      (omega (arith, left_weight (skip_sign cs) (skip_digits (skip_sign cs)) (digits_left (skip_sign cs)), sign_light cs))
  exponent_at false c cs = tt

  exponent_light : (t : List ℕ) → Below (weigh w t) (after_exponent t)
  exponent_light [] = tt
  exponent_light (c ∷ cs) = exponent_at (nat_eq c 68 || nat_eq c 69) c cs

  exponent_or-light : (r : List ℕ) (o : Option (List ℕ)) → Below (weigh w r) o → weigh w (exponent_or r o) ≤ weigh w r
  exponent_or-light r None h = omega arith
  exponent_or-light r (Some x) h = h

  point_light : (had : Bool) (t : List ℕ) → Below (weigh w t) (after_point had t)
  point_light had [] = tt
  point_light had (c ∷ cs) = below_if _ (skip_digits cs) (w.of c + weigh w cs) (omega (arith, left_weight cs (skip_digits cs) (digits_left cs)))

  below_more : (a b : ℕ) (o : Option (List ℕ)) → a ≤ b → Below a o → Below b o
  below_more a b None h x = tt
  below_more a b (Some r) h x = omega arith

  real_end-light : (t : List ℕ) (b : ℕ) (o : Option (List ℕ)) → weigh w t ≤ b → Below b o → Below b (real_end t o)
  real_end-light t b None h x = below_more (weigh w t) b (after_exponent t) h (exponent_light t)
  real_end-light t b (Some r) h x = let y = exponent_or-light r (after_exponent r) (exponent_light r) in omega arith

  -- what is read of a number
  abbrev pub Numbered : ℕ → State → ℕ × State → Type 0
  Numbered e s x = (e + weigh w (decimal x.0)) + weigh w x.1.rest ≤ e + weigh w s.rest

  zero_weight : weigh w (decimal 0) ≡ w.each
  zero_weight = let d : decimal 0 ≡ 48 ∷ [] = decimal_digit 0 (omega arith) in ap (weigh w) d ∙ omega (arith, w.even 48 refl)

  with_digit : (c : ℕ) (cs : List ℕ) (s : State) (o : Option (List ℕ)) (e : ℕ) → s.rest ≡ c ∷ cs → is_ascii_digit c ≡ true → Below (weigh w cs) o → Numbered e s (number_by s o)
  with_digit c cs s None e q d h =
      let f : digit_first s.rest ≡ true = ap digit_first q ∙ d in
      let l = digits_light s.rest f in
      omega arith
  with_digit c cs s (Some r) e q d h =
      let z = zero_weight in
      let p = digit_printable c d in
      let k : weigh w s.rest ≡ w.of c + weigh w cs = ap (weigh w) q in
      omega arith

  with_point : (cs : List ℕ) (s : State) (o : Option (List ℕ)) (e : ℕ) → s.rest ≡ 46 ∷ cs → (r : List ℕ) → o ≡ Some r → weigh w r ≤ weigh w cs → Numbered e s (number_by s o)
  with_point cs s None e q r g h = cc
  with_point cs s (Some x) e q r g h =
      let z = zero_weight in
      let p = w.even 46 refl in
      let k : weigh w s.rest ≡ w.of 46 + weigh w cs = ap (weigh w) q in
      let j : x ≡ r = cc in
      let y : weigh w x ≡ weigh w r = ap (weigh w) j in
      omega arith

  real_digit : (c : ℕ) (cs : List ℕ) → is_ascii_digit c ≡ true → Below (weigh w cs) (after_real (c ∷ cs))
  real_digit c cs d =
      let l : weigh w (skip_digits cs) ≤ weigh w cs = left_weight cs (skip_digits cs) (digits_left cs) in
      rw d (real_end-light (skip_digits cs) (weigh w cs) (after_point true (skip_digits cs)) l
      (below_more (weigh w (skip_digits cs)) (weigh w cs) (after_point true (skip_digits cs)) l (point_light true (skip_digits cs))))

  real_point : (cs : List ℕ) → digit_first cs ≡ true → after_real (46 ∷ cs) ≡ Some (exponent_or (skip_digits cs) (after_exponent (skip_digits cs)))
  real_point cs h = rw h

  number_at : (b : Bool) (c : ℕ) (cs : List ℕ) (s : State) (e : ℕ) → s.rest ≡ c ∷ cs → is_ascii_digit c ≡ b → (b || (nat_eq c 46 && digit_first cs)) ≡ true → Numbered e s (number_by s (after_real s.rest))
  number_at true c cs s e q d h = with_digit c cs s (after_real s.rest) e q d (subst (λ (x : List ℕ). Below (weigh w cs) (after_real x)) (sym q) (real_digit c cs d))
  number_at false c cs s e q d h =
      let p = and_parts (nat_eq c 46) (digit_first cs) h in
      let f : c ≡ 46 = eqb-true c 46 p.0 in
      let g : s.rest ≡ 46 ∷ cs = q ∙ ap (λ (x : ℕ). x ∷ cs) f in
      let r : List ℕ = skip_digits cs in
      with_point cs s (after_real s.rest) e g (exponent_or r (after_exponent r)) (ap after_real g ∙ real_point cs p.1)
      (omega (arith, exponent_or-light r (after_exponent r) (exponent_light r), left_weight cs r (digits_left cs)))

  number_of : (t : List ℕ) (s : State) (e : ℕ) → s.rest ≡ t → number_first t ≡ true → Numbered e s (number_by s (after_real s.rest))
  number_of [] s e q h = cc
  number_of (c ∷ cs) s e q h = number_at (is_ascii_digit c) c cs s e q refl h

  pub number_light : (s : State) (e : ℕ) → number_first s.rest ≡ true → Numbered e s (number s)
  unfolding number
  number_light s e h = number_of s.rest s e refl h
