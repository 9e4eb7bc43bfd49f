-- The common divisor of factors where dividing starts from one of them, and factors that stay at or above 2^62.
use Rattle.std.proofs.Common.{◌≡◌, ◌∙◌, ℕ, zero, suc, ◌+◌, ◌*◌, ◌^◌, ◌<◌, ◌≤◌, Bool, true, false, ◌&&◌, List, [], ◌∷◌, length, get_or, ℤ, pos, arith, ap, refl, sym, subst, inl, inr, ⊎_elim, unsigned_abs}
use Rattle.std.specs.Prelude.{if◌then◌else◌}
use Rattle.std.specs.Int.{int_div_euclid}
use Rattle.std.proofs.lemmas.Int.{unsigned_abs-mul}
use Rattle.std.proofs.lemmas.Bool.{cases_Bool}
use Rattle.std.proofs.lemmas.Nat.Gcd.{dvd_antisymm, le_of_dvd}
use Rattle.std.proofs.Math.Nat.{dvd_trans, mul-le-mul_left}
use Prim.Native.Nat.{◌∣◌}
use Rattle.fx_lists.proofs.Booleans.{and_false}
use Rattle.affine_systems.specs.declared.row.Term.{Term}
use Rattle.affine_systems.specs.declared.row.Row.{Row}
use Rattle.affine_systems.specs.Normal.{gcd, gcd_of, divisor, divided, is_small, are_small, IsSize, Normal, Kept, TooBig, start_of, normal_terms, normal}
use Rattle.affine_systems.specs.Rows.{row}
use Rattle.affine_systems.proofs.NormalLaws.{DividesAll, gcd_divides, gcd_of_divides, divisor_divides, divisor_positive, exact_quotient}
use Rattle.affine_systems.proofs.ReducedLaws.{gcd_greatest, gcd_of_greatest}
use Rattle.affine_systems.proofs.FitLaws.{small_is}

pub size_at : (ts : List Term) (i : ℕ) (d : Term) → i < length ts → IsSize (unsigned_abs (get_or ts i d).factor) ts
size_at [] i d h = absurd (omega arith)
size_at (t ∷ ts) zero d h = inl refl
size_at (t ∷ ts) (suc i) d h = inr (size_at ts i d (omega arith))

size_divided : (n d : ℕ) (ts : List Term) → IsSize n ts → DividesAll d ts → d ∣ n
size_divided n d [] h k = absurd h
size_divided n d (t ∷ ts) (inl e) k = subst (λ x. d ∣ x) (sym e) k.0
size_divided n d (t ∷ ts) (inr h) k = size_divided n d ts h k.1

-- dividing may start from one of the factors
pub gcd_of-from : (ts : List Term) (n m : ℕ) → IsSize n ts → gcd_of ts (gcd n m) ≡ gcd_of ts m
gcd_of-from ts n m h =
    let a = gcd_of_divides ts (gcd n m) in
    let b = gcd_of_divides ts m in
    dvd_antisymm
    (gcd_of_greatest ts m (gcd_of ts (gcd n m)) a.0 (dvd_trans (gcd_of ts (gcd n m)) a.1 (gcd_divides n m).1))
    (gcd_of_greatest ts (gcd n m) (gcd_of ts m) b.0 (gcd_greatest n m (gcd_of ts m) (size_divided n (gcd_of ts m) ts h b.0) b.1))

-- ---- factors that stay big

quotient_size : (g : ℕ) (f : ℤ) → 0 < g → g ∣ unsigned_abs f → g * unsigned_abs (int_div_euclid f (pos g)) ≡ unsigned_abs f
quotient_size g f h d = sym (unsigned_abs-mul (pos g) (int_div_euclid f (pos g))) ∙ ap unsigned_abs (exact_quotient g f h d)

stays_big : (g : ℕ) (f : ℤ) → 0 < g → g ∣ unsigned_abs f → g * 2 ^ 62 ≤ unsigned_abs f → is_small (int_div_euclid f (pos g)) ≡ false
stays_big g f h d l = ⊎_elim (λ e. absurd (small e)) (λ e. e) (cases_Bool (is_small (int_div_euclid f (pos g)))) where
  small : is_small (int_div_euclid f (pos g)) ≡ true → ⊥
  small e =
      let q = unsigned_abs (int_div_euclid f (pos g)) in
      let s : q < 2 ^ 62 = small_is (int_div_euclid f (pos g)) e in
      let m : g * suc q ≤ g * 2 ^ 62 = mul-le-mul_left g s in
      let n = quotient_size g f h d in
      let o : g * suc q ≡ g * q + g = omega arith in
      omega (arith, m, n, o, h, l)

some_big : (g n : ℕ) (ts : List Term) → IsSize n ts → 0 < g → DividesAll g ts → g * 2 ^ 62 ≤ n → are_small (divided g ts) ≡ false
some_big g n [] h k d l = absurd h
some_big g n (t ∷ ts) (inl e) k d l =
    ap (λ b. b && are_small (divided g ts)) (stays_big g t.factor k d.0 (subst (λ x. g * 2 ^ 62 ≤ x) e l))
some_big g n (t ∷ ts) (inr h) k d l =
    ap (λ b. is_small (int_div_euclid t.factor (pos g)) && b) (some_big g n ts h k d.1 l) ∙ and_false (is_small (int_div_euclid t.factor (pos g)))

-- an at-most row with factors so far apart is too big whatever it is divided by
pub too_big : (q : Bool) (r : Row) (least most : ℕ) → r.equal ≡ false → IsSize least r.terms → IsSize most r.terms → 0 < least → least * 2 ^ 62 ≤ most → normal q r ≡ TooBig
too_big q r least most e h k s l = go r.equal r.terms e h k where
  go : (x : Bool) (ts : List Term) → x ≡ false → IsSize least ts → IsSize most ts → normal_terms q x ts r.bound ≡ TooBig
  go x [] f a b = absurd a
  go true (t ∷ ts) f a b = cc
  go false (t ∷ ts) f a b =
      let m = start_of q r.bound in
      let g = divisor (t ∷ ts) m in
      let p : 0 < g = divisor_positive (t ∷ ts) m in
      let d : DividesAll g (t ∷ ts) = (divisor_divides (t ∷ ts) m).0 in
      let o : g ≤ least = le_of_dvd s (size_divided least g (t ∷ ts) a d) in
      let u : g * 2 ^ 62 ≤ most = omega (arith, o, l) in
      let w = row false (divided g (t ∷ ts)) (int_div_euclid r.bound (pos g)) in
      ap (λ b. if is_small w.bound && b then Kept w else TooBig) (some_big g most (t ∷ ts) b p d u)
      ∙ ap (λ b. if b then Kept w else TooBig) (and_false (is_small w.bound))
