-- The normal form of a row holds where the row does.
use Rattle.std.proofs.Common.{◌≡◌, ◌↔◌, ℕ, zero, suc, ◌+◌, ◌*◌, ◌/◌, ◌%◌, ◌<◌, ◌≤◌, max, Bool, true, false, ◌&&◌, List, [], ◌∷◌, ℤ, pos, negsuc, neg_ℤ, ◌+ℤ◌, ◌*ℤ◌, ◌≤ℤ◌, ◌<ℤ◌, arith, ap, refl, sym, subst, ◌∙◌, int_eq, int_lt, unsigned_abs}
use Rattle.std.specs.Prelude.{if◌then◌else◌, nat_eq}
use Rattle.std.specs.Int.{int_div_euclid}
use Rattle.std.proofs.lemmas.Int.{ints, unsigned_abs-mul, by_lt_z}
use Rattle.std.proofs.lemmas.Bool.Decides.{Decides-eqb, Decides-int_eq}
use Rattle.std.proofs.Math.Nat.{dvd_refl, dvd-zero, dvd-mod_iff, one-dvd, mod-eq-zero_of_dvd, dvd_of_mod-eq-zero, dvd_trans, dvd-mul_right, lt_of_mul-lt-mul_left, mul-le-mul_left}
use Prim.Native.Nat.{◌∣◌}
use borrow.Author.Differences.{product_is}
use Rattle.affine_systems.specs.declared.row.Term.{Term}
use Rattle.affine_systems.specs.declared.row.Row.{Row}
use Rattle.affine_systems.specs.Terms.{negated_terms}
use Rattle.affine_systems.specs.Rows.{row}
use Rattle.affine_systems.specs.Points.{Point, value, Holds}
use Rattle.affine_systems.specs.Normal.{gcd_within, gcd, gcd_of, divisor, divided, last_is_negative, is_small, are_small, Normal, Kept, Always, Never, TooBig, without_terms, if_small, turned, turned_if_small, divided_by, normal_terms, normal}
use Rattle.affine_systems.proofs.Basics.{if_cases, distributes, mul_assoc, mul_comm, scale_le, neg_mul}
use Rattle.fx_lists.proofs.Numbers.{is_number}

-- ---- common divisors

pub zero_from_test : (b : ℕ) → nat_eq b 0 ≡ true → b ≡ 0
zero_from_test b e = (Decides-eqb b 0).0 e

gcd_within_divides : (n a b : ℕ) → (gcd_within n a b ∣ a) × (gcd_within n a b ∣ b)
gcd_within_divides zero a b = (one-dvd a, one-dvd b)
gcd_within_divides (suc n) a zero = (dvd_refl a, dvd-zero a)
gcd_within_divides (suc n) a (suc b) =
    let ih = gcd_within_divides n (suc b) (a % suc b) in
    ((dvd-mod_iff (gcd_within n (suc b) (a % suc b)) ih.0).0 ih.1, ih.0)

pub gcd_divides : (a b : ℕ) → (gcd a b ∣ a) × (gcd a b ∣ b)
unfolding gcd
gcd_divides a b = gcd_within_divides (suc (suc b)) a b

-- a number divides each factor
abbrev pub DividesAll : ℕ → List Term → Type 0
DividesAll g [] = Unit {0}
DividesAll g (t ∷ ts) = (g ∣ unsigned_abs t.factor) × DividesAll g ts

pub gcd_of_divides : (ts : List Term) (m : ℕ) → DividesAll (gcd_of ts m) ts × (gcd_of ts m ∣ m)
gcd_of_divides [] m = (tt, dvd_refl m)
gcd_of_divides (t ∷ ts) m =
    let ih = gcd_of_divides ts (gcd (unsigned_abs t.factor) m) in
    let d = gcd_divides (unsigned_abs t.factor) m in
    ((dvd_trans (gcd_of (t ∷ ts) m) ih.1 d.0, ih.0), dvd_trans (gcd_of (t ∷ ts) m) ih.1 d.1)

at_least_one : (g n : ℕ) → g ∣ n → max 1 g ∣ n
at_least_one zero n d = one-dvd n
at_least_one (suc g) n d = let e : max 1 (suc g) ≡ suc g = omega arith in rw e d

all_at_least_one : (g : ℕ) (ts : List Term) → DividesAll g ts → DividesAll (max 1 g) ts
all_at_least_one g [] d = tt
all_at_least_one g (t ∷ ts) d = (at_least_one g (unsigned_abs t.factor) d.0, all_at_least_one g ts d.1)

pub divisor_divides : (ts : List Term) (m : ℕ) → DividesAll (divisor ts m) ts × (divisor ts m ∣ m)
unfolding divisor
divisor_divides ts m =
    let h = gcd_of_divides ts m in
    (all_at_least_one (gcd_of ts m) ts h.0, at_least_one (gcd_of ts m) m h.1)

pub divisor_positive : (ts : List Term) (m : ℕ) → 0 < divisor ts m
unfolding divisor
divisor_positive ts m = omega arith

-- ---- quotients

next_quotient : (g a : ℕ) → 0 < g → suc a % g ≡ 0 → g * suc (a / g) ≡ suc a
next_quotient g a h e =
    let q : g * (a / g) + a % g ≡ a = omega arith in
    let r : a % g < g = omega arith in
    let s : g * (suc a / g) ≡ suc a = omega arith in
    let m : g * (a / g) < g * (suc a / g) = omega arith in
    let low : a / g < suc a / g = lt_of_mul-lt-mul_left g m in
    let n : g * suc (a / g) ≤ g * (suc a / g) = mul-le-mul_left g low in
    omega (arith, n)

pub exact_quotient : (g : ℕ) (f : ℤ) → 0 < g → g ∣ unsigned_abs f → pos g *ℤ int_div_euclid f (pos g) ≡ f
exact_quotient g (pos a) h d =
    let e : a % g ≡ 0 = mod-eq-zero_of_dvd g d in
    let q : g * (a / g) ≡ a = omega arith in
    ap pos q
exact_quotient g (negsuc a) h d =
    let e : suc a % g ≡ 0 = mod-eq-zero_of_dvd g d in
    let q = next_quotient g a h e in
    omega (arith, ints, product_is (pos g) (negsuc (a / g)), q)

pub floor_bounds : (a : ℤ) (k : ℕ) → 0 < k → ((int_div_euclid a (pos k) *ℤ pos k) ≤ℤ a) × (a <ℤ ((int_div_euclid a (pos k) *ℤ pos k) +ℤ pos k))
floor_bounds (pos a) k h = (omega (arith, ints), omega (arith, ints))
floor_bounds (negsuc a) k h = (omega (arith, ints), omega (arith, ints))

-- a multiple is at most a number where its factor is at most the quotient
pub below_floor : (g : ℕ) (w b : ℤ) → 0 < g → (pos g *ℤ w) ≤ℤ b → w ≤ℤ int_div_euclid b (pos g)
below_floor g w b h k =
    let q = int_div_euclid b (pos g) in
    let f = floor_bounds b g h in
    by_lt_z q w
    (λ l. let m : (q +ℤ pos 1) ≤ℤ w = omega (arith, ints) in
    let n = scale_le g (q +ℤ pos 1) w m in
    let d = distributes (pos g) q (pos 1) in
    let o : (pos g *ℤ pos 1) ≡ pos g = omega (arith, ints) in
    let c = mul_comm (pos g) q in
    absurd (omega (arith, ints, n, d, o, c, f.1)))
    (λ l. l)

pub from_floor : (g : ℕ) (w b : ℤ) → 0 < g → w ≤ℤ int_div_euclid b (pos g) → (pos g *ℤ w) ≤ℤ b
from_floor g w b h k =
    let q = int_div_euclid b (pos g) in
    let f = floor_bounds b g h in
    let n = scale_le g w q k in
    let c = mul_comm (pos g) q in
    omega (arith, ints, n, c, f.0)

pub cancel_scale : (g : ℕ) (x y : ℤ) → 0 < g → pos g *ℤ x ≡ pos g *ℤ y → x ≡ y
cancel_scale g x y h e =
    by_lt_z x y (λ l. absurd (strictly g x y h l e)) (λ l. by_lt_z y x (λ m. absurd (strictly g y x h m (sym e))) (λ m. omega (arith, ints)))
  where
    strictly : (g : ℕ) (x y : ℤ) → 0 < g → x <ℤ y → pos g *ℤ x ≡ pos g *ℤ y → ⊥
    strictly g x y h l e =
        let m : (x +ℤ pos 1) ≤ℤ y = omega (arith, ints) in
        let n = scale_le g (x +ℤ pos 1) y m in
        let d = distributes (pos g) x (pos 1) in
        let o : (pos g *ℤ pos 1) ≡ pos g = omega (arith, ints) in
        omega (arith, ints, n, d, o, e)

-- ---- rows

pub value-divided : (p : Point) (g : ℕ) (ts : List Term) → 0 < g → DividesAll g ts → pos g *ℤ value p (divided g ts) ≡ value p ts
value-divided p g [] h d = omega (arith, ints)
value-divided p g (t ∷ ts) h d =
    let ih = value-divided p g ts h d.1 in
    let q = int_div_euclid t.factor (pos g) in
    let e = exact_quotient g t.factor h d.0 in
    let m = mul_assoc (pos g) q (p t.var) in
    let k : (pos g *ℤ q) *ℤ p t.var ≡ t.factor *ℤ p t.var = ap (λ x. x *ℤ p t.var) e in
    let s = distributes (pos g) (q *ℤ p t.var) (value p (divided g ts)) in
    s ∙ omega (arith, ints, ih, m, k)

pub value-negated : (p : Point) (ts : List Term) → value p (negated_terms ts) ≡ neg_ℤ (value p ts)
value-negated p [] = refl
value-negated p (t ∷ ts) =
    let ih = value-negated p ts in
    let m = neg_mul t.factor (p t.var) in
    omega (arith, ints, ih, m)

-- what the normal form of a row says, where the row says P
abbrev pub Agrees : Point → Type 0 → Normal → Type 0
Agrees p P (Kept r) = P ↔ Holds p r
Agrees p P Always = P
Agrees p P Never = P → ⊥
Agrees p P TooBig = Unit {0}

agrees-if_small : (p : Point) (P : Type 0) (r s : Row) → P ↔ Holds p s → Agrees p P (if_small r s)
agrees-if_small p P r s h =
    if_cases (Agrees p P) (is_small r.bound && are_small r.terms) (Kept s) TooBig (λ e. h) (λ e. tt)

turned_holds : (p : Point) (ts : List Term) (b : ℤ) → (value p ts ≡ b) ↔ Holds p (turned (row true ts b))
turned_holds p ts b =
    if_cases (λ (r : Row). (value p ts ≡ b) ↔ Holds p r) (last_is_negative ts) (row true (negated_terms ts) (neg_ℤ b)) (row true ts b)
    (λ e. let n = value-negated p ts in ((λ h. n ∙ ap neg_ℤ h), (λ h. omega (arith, ints, n, h))))
    (λ e. ((λ h. h), (λ h. h)))

agrees-without_terms : (p : Point) (e : Bool) (b : ℤ) → Agrees p (Holds p (row e [] b)) (without_terms e b)
agrees-without_terms p true b =
    if_cases (Agrees p (pos 0 ≡ b)) (int_eq b (pos 0)) Always Never
    (λ e. sym (is_number b (pos 0) e))
    (λ e h. false_true (sym e ∙ (Decides-int_eq b (pos 0)).1 (sym h)))
  where
    false_true : false ≡ true → ⊥
    false_true e = cc
agrees-without_terms p false b =
    if_cases (Agrees p (pos 0 ≤ℤ b)) (int_lt b (pos 0)) Never Always
    (λ e h. absurd (omega (arith, ints, e)))
    (λ e. omega (arith, ints, e))

agrees-divided_by : (p : Point) (g : ℕ) (e : Bool) (ts : List Term) (b : ℤ) → 0 < g → DividesAll g ts → Agrees p (Holds p (row e ts b)) (divided_by g e ts b)
agrees-divided_by p g false ts b h d =
    let v = value-divided p g ts h d in
    let w = value p (divided g ts) in
    agrees-if_small p (Holds p (row false ts b)) (row false (divided g ts) (int_div_euclid b (pos g))) (row false (divided g ts) (int_div_euclid b (pos g)))
    ((λ k. below_floor g w b h (subst (λ (x : ℤ). x ≤ℤ b) (sym v) k)), (λ k. subst (λ (x : ℤ). x ≤ℤ b) v (from_floor g w b h k)))
agrees-divided_by p g true ts b h d =
    let v = value-divided p g ts h d in
    let w = value p (divided g ts) in
    if_cases (Agrees p (value p ts ≡ b)) (nat_eq (unsigned_abs b % g) 0) (turned_if_small (row true (divided g ts) (int_div_euclid b (pos g)))) Never
    (λ e. let x = exact_quotient g b h (dvd_of_mod-eq-zero g (zero_from_test (unsigned_abs b % g) e)) in
    let t = turned_holds p (divided g ts) (int_div_euclid b (pos g)) in
    agrees-if_small p (value p ts ≡ b) (row true (divided g ts) (int_div_euclid b (pos g))) (turned (row true (divided g ts) (int_div_euclid b (pos g))))
    ((λ k. t.0 (cancel_scale g w (int_div_euclid b (pos g)) h (v ∙ k ∙ sym x))), (λ k. sym v ∙ ap (λ y. pos g *ℤ y) (t.1 k) ∙ x)))
    (λ e k. let m : unsigned_abs b ≡ g * unsigned_abs w = ap unsigned_abs (sym k ∙ sym v) ∙ unsigned_abs-mul (pos g) w in
    let z : unsigned_abs b % g ≡ 0 = mod-eq-zero_of_dvd g (subst (λ n. g ∣ n) (sym m) (dvd-mul_right g (unsigned_abs w))) in
    false_true (sym e ∙ (Decides-eqb (unsigned_abs b % g) 0).1 z))
  where
    false_true : false ≡ true → ⊥
    false_true e = cc

pub normal_agrees : (p : Point) (q : Bool) (r : Row) → Agrees p (Holds p r) (normal q r)
normal_agrees p q r = go r.terms where
  go : (ts : List Term) → Agrees p (Holds p (row r.equal ts r.bound)) (normal_terms q r.equal ts r.bound)
  go [] = agrees-without_terms p r.equal r.bound
  go (t ∷ ts) =
      let m = if q then unsigned_abs r.bound else 0 in
      agrees-divided_by p (divisor (t ∷ ts) m) r.equal (t ∷ ts) r.bound (divisor_positive (t ∷ ts) m) (divisor_divides (t ∷ ts) m).0
