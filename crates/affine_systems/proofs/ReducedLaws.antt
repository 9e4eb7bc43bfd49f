-- A normal form is its own normal form: its factors have no common divisor but 1.
use Rattle.std.proofs.Common.{◌≡◌, ℕ, zero, suc, ◌*◌, ◌%◌, ◌<◌, ◌^◌, max, Bool, true, false, ◌&&◌, List, [], ◌∷◌, ℤ, pos, negsuc, neg_ℤ, arith, ap, ap₂, refl, sym, subst, ◌∙◌, int_eq, int_lt, unsigned_abs}
use Rattle.std.specs.Prelude.{if◌then◌else◌, nat_eq, nat_lt}
use Rattle.std.specs.Int.{int_div_euclid}
use Rattle.std.proofs.lemmas.Int.{ints, unsigned_abs-mul}
use Rattle.std.proofs.lemmas.Bool.Decides.{Decides-eqb}
use Rattle.std.proofs.lemmas.Nat.Gcd.{dvd_antisymm}
use Rattle.std.proofs.Math.Nat.{mul-dvd-mul_left, dvd_of_mul-dvd-mul_left, pos_of_dvd_of_pos, mul-one, dvd-mod_iff, one-dvd}
use Rattle.std.proofs.lemmas.Bool.{false_from_ne_true}
use Prim.Native.Nat.{◌∣◌}
use Rattle.affine_systems.specs.declared.row.Term.{Term}
use Rattle.affine_systems.specs.declared.row.Row.{Row}
use Rattle.affine_systems.specs.Terms.{term, negated_terms, has_no_terms, Ascends}
use Rattle.affine_systems.specs.Rows.{row}
use Rattle.affine_systems.specs.Normal.{gcd_within, gcd, gcd_of, divisor, divided, last_is_negative, is_small, are_small, Normal, Kept, Always, Never, TooBig, without_terms, if_small, turned, kept_if_small, turned_if_small, divided_by, start_of, normal_terms, normal}
use Rattle.affine_systems.proofs.Basics.{if_cases}
use Rattle.affine_systems.proofs.NormalLaws.{DividesAll, divisor_divides, divisor_positive, exact_quotient, gcd_of_divides}
use Rattle.affine_systems.proofs.ExactLaws.{div_one}
use Rattle.fx_lists.proofs.Numbers.{size_turned as abs-neg}
use Rattle.fx_lists.proofs.Booleans.{clash}

-- ---- the greatest common divisor is the greatest

gcd_within_greatest : (n a b d : ℕ) → b < n → d ∣ a → d ∣ b → d ∣ gcd_within n a b
gcd_within_greatest zero a b d l h k = absurd (omega arith)
gcd_within_greatest (suc n) a zero d l h k = h
gcd_within_greatest (suc n) a (suc b) d l h k =
    let m : a % suc b < suc b = omega arith in
    let r : a % suc b < n = omega arith in
    gcd_within_greatest n (suc b) (a % suc b) d r k ((dvd-mod_iff d k).1 h)

pub gcd_greatest : (a b d : ℕ) → d ∣ a → d ∣ b → d ∣ gcd a b
unfolding gcd
gcd_greatest a b d h k = gcd_within_greatest (suc (suc b)) a b d (omega arith) h k

pub gcd_of_greatest : (ts : List Term) (m d : ℕ) → DividesAll d ts → d ∣ m → d ∣ gcd_of ts m
gcd_of_greatest [] m d h k = k
gcd_of_greatest (t ∷ ts) m d h k = gcd_of_greatest ts (gcd (unsigned_abs t.factor) m) d h.1 (gcd_greatest (unsigned_abs t.factor) m d h.0 k)

-- a common divisor divides the divisor, where that is no 0
divisor_greatest : (ts : List Term) (m d : ℕ) → 0 < gcd_of ts m → DividesAll d ts → d ∣ m → d ∣ divisor ts m
unfolding divisor
divisor_greatest ts m d l h k =
    let e : max 1 (gcd_of ts m) ≡ gcd_of ts m = omega arith in
    rw e (gcd_of_greatest ts m d h k)

-- divided by their divisor, factors have no common divisor but 1
divisor-divided : (g : ℕ) (ts : List Term) (m n : ℕ) → g ≡ divisor ts m → 0 < gcd_of ts m → g * n ≡ m → divisor (divided g ts) n ≡ 1
divisor-divided g ts m n e l h =
    let p : 0 < g = subst (λ x. 0 < x) (sym e) (divisor_positive ts m) in
    let d : DividesAll g ts = subst (λ x. DividesAll x ts) (sym e) (divisor_divides ts m).0 in
    let k = divisor (divided g ts) n in
    let c = divisor_divides (divided g ts) n in
    let w : g * k ∣ m = subst (λ x. g * k ∣ x) h (mul-dvd-mul_left k g c.1) in
    let u : g * k ∣ g * 1 = subst (λ x. g * k ∣ x) (sym e ∙ sym (mul-one g)) (divisor_greatest ts m (g * k) l (all_scaled g k ts p d c.0) w) in
    dvd_antisymm (dvd_of_mul-dvd-mul_left k p u) (one-dvd k)
  where
    all_scaled : (g k : ℕ) (ts : List Term) → 0 < g → DividesAll g ts → DividesAll k (divided g ts) → DividesAll (g * k) ts
    all_scaled g k [] p d c = tt
    all_scaled g k (t ∷ ts) p d c =
        let q = int_div_euclid t.factor (pos g) in
        let x : g * unsigned_abs q ≡ unsigned_abs t.factor = sym (unsigned_abs-mul (pos g) q) ∙ ap unsigned_abs (exact_quotient g t.factor p d.0) in
        (subst (λ y. g * k ∣ y) x (mul-dvd-mul_left k g c.0), all_scaled g k ts p d.1 c.1)

-- ---- reduced rows

-- a row that is its own normal form, by its parts
pub record IsReduced (q : Bool) (r : Row) : Type 0 where
  pub some : has_no_terms r.terms ≡ false
  pub divisor_one : divisor r.terms (start_of q r.bound) ≡ 1
  pub small : (is_small r.bound && are_small r.terms) ≡ true
  pub last : r.equal ≡ true → last_is_negative r.terms ≡ false

divided-one : (ts : List Term) → divided 1 ts ≡ ts
divided-one [] = refl
divided-one (t ∷ ts) = ap₂ (λ z (us : List Term). term t.var z ∷ us) (div_one t.factor) (divided-one ts)

pub normal-reduced : (q : Bool) (r : Row) → IsReduced q r → normal q r ≡ Kept r
normal-reduced q r h = go r.equal r.terms h.some h.divisor_one h.small h.last where
  small_kept : (r s : Row) → (is_small r.bound && are_small r.terms) ≡ true → if_small r s ≡ Kept s
  small_kept r s e = rw e refl

  one : (e : Bool) (ts : List Term) → (is_small r.bound && are_small ts) ≡ true → (e ≡ true → last_is_negative ts ≡ false) → divided_by 1 e ts r.bound ≡ Kept (row e ts r.bound)
  one false ts s l =
      ap₂ (λ (us : List Term) z. kept_if_small (row false us z)) (divided-one ts) (div_one r.bound)
      ∙ small_kept (row false ts r.bound) (row false ts r.bound) s
  one true ts s l =
      let z : unsigned_abs r.bound % 1 ≡ 0 = omega arith in
      let t : turned (row true ts r.bound) ≡ row true ts r.bound = rw (l refl) refl in
      ap (λ b. if b then turned_if_small (row true (divided 1 ts) (int_div_euclid r.bound (pos 1))) else Never) ((Decides-eqb (unsigned_abs r.bound % 1) 0).1 z)
      ∙ (ap₂ (λ (us : List Term) y. turned_if_small (row true us y)) (divided-one ts) (div_one r.bound)
      ∙ (small_kept (row true ts r.bound) (turned (row true ts r.bound)) s ∙ ap Kept t))

  go : (e : Bool) (ts : List Term) → has_no_terms ts ≡ false → divisor ts (start_of q r.bound) ≡ 1 → (is_small r.bound && are_small ts) ≡ true → (e ≡ true → last_is_negative ts ≡ false) → normal_terms q e ts r.bound ≡ Kept (row e ts r.bound)
  go e [] n d s l = cc
  go e (t ∷ ts) n d s l = ap (λ g. divided_by g e (t ∷ ts) r.bound) d ∙ one e (t ∷ ts) s l

-- ---- signs turned

is_small-neg : (z : ℤ) → is_small (neg_ℤ z) ≡ is_small z
unfolding is_small
is_small-neg z = ap (λ n. nat_lt n (2 ^ 62)) (abs-neg z)

are_small-negated : (ts : List Term) → are_small (negated_terms ts) ≡ are_small ts
are_small-negated [] = refl
are_small-negated (t ∷ ts) = ap₂ (λ a b. a && b) (is_small-neg t.factor) (are_small-negated ts)

gcd_of-negated : (ts : List Term) (m : ℕ) → gcd_of (negated_terms ts) m ≡ gcd_of ts m
gcd_of-negated [] m = refl
gcd_of-negated (t ∷ ts) m = gcd_of-negated ts (gcd (unsigned_abs (neg_ℤ t.factor)) m) ∙ ap (λ n. gcd_of ts (gcd n m)) (abs-neg t.factor)

divisor-negated : (ts : List Term) (m : ℕ) → divisor (negated_terms ts) m ≡ divisor ts m
unfolding divisor
divisor-negated ts m = ap (λ n. max 1 n) (gcd_of-negated ts m)

pub turned_positive : (z : ℤ) → int_lt z (pos 0) ≡ true → int_lt (neg_ℤ z) (pos 0) ≡ false
turned_positive (pos n) e = absurd (omega (arith, ints, e))
turned_positive (negsuc n) e = false_from_ne_true (int_lt (pos (suc n)) (pos 0)) (λ l. omega (arith, ints, l))

last-negated : (ts : List Term) → last_is_negative ts ≡ true → last_is_negative (negated_terms ts) ≡ false
last-negated [] e = cc
last-negated (t ∷ []) e = turned_positive t.factor e
last-negated (t ∷ (u ∷ us)) e = last-negated (u ∷ us) e

start_of-neg : (q : Bool) (b : ℤ) → start_of q (neg_ℤ b) ≡ start_of q b
start_of-neg true b = abs-neg b
start_of-neg false b = refl

-- the row with its signs turned where its last factor is negative
turned-reduced : (q : Bool) (r : Row) → r.equal ≡ true → has_no_terms r.terms ≡ false → divisor r.terms (start_of q r.bound) ≡ 1 → (is_small r.bound && are_small r.terms) ≡ true → IsReduced q (turned r)
turned-reduced q r e n d s =
    if_cases (IsReduced q) (last_is_negative r.terms) (row true (negated_terms r.terms) (neg_ℤ r.bound)) r
    (λ l. record {
      some = some_negated r.terms n;
      divisor_one = divisor-negated r.terms (start_of q (neg_ℤ r.bound)) ∙ (ap (divisor r.terms) (start_of-neg q r.bound) ∙ d);
      small = ap₂ (λ a b. a && b) (is_small-neg r.bound) (are_small-negated r.terms) ∙ s;
      last = λ _. last-negated r.terms l;
    })
    (λ l. record { some = n; divisor_one = d; small = s; last = λ _. l })
  where
    some_negated : (ts : List Term) → has_no_terms ts ≡ false → has_no_terms (negated_terms ts) ≡ false
    some_negated [] e = e
    some_negated (t ∷ ts) e = refl

-- ---- normal forms are reduced

abbrev NormalReduced : Bool → Normal → Type 0
NormalReduced q (Kept r) = IsReduced q r
NormalReduced q Always = Unit {0}
NormalReduced q Never = Unit {0}
NormalReduced q TooBig = Unit {0}

-- what the gcd starts from is a multiple
start_divided : (q : Bool) (g : ℕ) (b : ℤ) → 0 < g → g ∣ start_of q b → g * start_of q (int_div_euclid b (pos g)) ≡ start_of q b
start_divided true g b p d = sym (unsigned_abs-mul (pos g) (int_div_euclid b (pos g))) ∙ ap unsigned_abs (exact_quotient g b p d)
start_divided false g b p d = omega arith

divided_by-reduced : (q e : Bool) (g : ℕ) (t : Term) (ts : List Term) (b : ℤ) → g ≡ divisor (t ∷ ts) (start_of q b) → int_eq t.factor (pos 0) ≡ false → NormalReduced q (divided_by g e (t ∷ ts) b)
divided_by-reduced q e g t ts b h n = go e where
  positive : 0 < g
  positive = subst (λ x. 0 < x) (sym h) (divisor_positive (t ∷ ts) (start_of q b))

  some_gcd : 0 < gcd_of (t ∷ ts) (start_of q b)
  some_gcd = pos_of_dvd_of_pos (gcd_of_divides (t ∷ ts) (start_of q b)).0.0 (abs_positive t.factor n)
    where
      abs_positive : (z : ℤ) → int_eq z (pos 0) ≡ false → 0 < unsigned_abs z
      abs_positive (pos zero) e = clash true refl e
      abs_positive (pos (suc n)) e = omega arith
      abs_positive (negsuc n) e = omega arith

  one : divisor (divided g (t ∷ ts)) (start_of q (int_div_euclid b (pos g))) ≡ 1
  one = divisor-divided g (t ∷ ts) (start_of q b) (start_of q (int_div_euclid b (pos g))) h some_gcd
      (start_divided q g b positive (subst (λ x. x ∣ start_of q b) (sym h) (divisor_divides (t ∷ ts) (start_of q b)).1))

  go : (e : Bool) → NormalReduced q (divided_by g e (t ∷ ts) b)
  go false =
      let r = row false (divided g (t ∷ ts)) (int_div_euclid b (pos g)) in
      if_cases (NormalReduced q) (is_small r.bound && are_small r.terms) (Kept r) TooBig
      (λ s. record { some = refl; divisor_one = one; small = s; last = λ z. cc }) (λ s. tt)
  go true =
      let r = row true (divided g (t ∷ ts)) (int_div_euclid b (pos g)) in
      if_cases (NormalReduced q) (nat_eq (unsigned_abs b % g) 0) (turned_if_small r) Never
      (λ z. if_cases (NormalReduced q) (is_small r.bound && are_small r.terms) (Kept (turned r)) TooBig
      (λ s. turned-reduced q r refl refl one s) (λ s. tt))
      (λ z. tt)

pub normal_reduced : (q : Bool) (r : Row) → Ascends r.terms → NormalReduced q (normal q r)
normal_reduced q r a = go r.terms a where
  go : (ts : List Term) → Ascends ts → NormalReduced q (normal_terms q r.equal ts r.bound)
  go [] a = none r.equal
    where
      none : (e : Bool) → NormalReduced q (without_terms e r.bound)
      none true = if_cases (NormalReduced q) (int_eq r.bound (pos 0)) Always Never (λ e. tt) (λ e. tt)
      none false = if_cases (NormalReduced q) (int_lt r.bound (pos 0)) Never Always (λ e. tt) (λ e. tt)
  go (t ∷ ts) a = divided_by-reduced q r.equal (divisor (t ∷ ts) (start_of q r.bound)) t ts r.bound refl a.0

pub kept-reduced : (q : Bool) (r s : Row) → Ascends r.terms → normal q r ≡ Kept s → IsReduced q s
kept-reduced q r s a e = subst (NormalReduced q) e (normal_reduced q r a)
