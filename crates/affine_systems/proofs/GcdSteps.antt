-- Euclid's steps, for loops.
use Rattle.std.proofs.Common.{◌≡◌, ◌≢◌, ℕ, zero, suc, ◌+◌, ◌%◌, ◌<◌, ◌≤◌, max, List, [], ◌∷◌, drop, length, get_or, drop-cons, drop_of_length-le, add-one, arith, ap, refl, sym, ◌∙◌, unsigned_abs}
use Rattle.affine_systems.specs.declared.row.Term.{Term}
use Rattle.affine_systems.specs.Normal.{gcd_within, gcd, gcd_of, divisor}

pub gcd_fuel : (m n a b : ℕ) → b < m → b < n → gcd_within m a b ≡ gcd_within n a b
gcd_fuel zero n a b h k = absurd (omega arith)
gcd_fuel (suc m) zero a b h k = absurd (omega arith)
gcd_fuel (suc m) (suc n) a zero h k = refl
gcd_fuel (suc m) (suc n) a (suc b) h k =
    let l : a % suc b < m = omega arith in
    let r : a % suc b < n = omega arith in
    gcd_fuel m n (suc b) (a % suc b) l r

pub gcd_step : (a b : ℕ) → b ≢ 0 → gcd b (a % b) ≡ gcd a b
unfolding gcd
gcd_step a zero n = absurd (n refl)
gcd_step a (suc b) n =
    let l : a % suc b < suc (suc (a % suc b)) = omega arith in
    let r : a % suc b < suc (suc b) = omega arith in
    gcd_fuel (suc (suc (a % suc b))) (suc (suc b)) (suc b) (a % suc b) l r

pub gcd_end : (a b : ℕ) → b ≡ 0 → gcd a b ≡ a
unfolding gcd
gcd_end a zero e = refl
gcd_end a (suc b) e = absurd (omega arith)

pub gcd_of-drop : (ts : List Term) (i g : ℕ) (d : Term) → i < length ts → gcd_of (drop (i + 1) ts) (gcd (unsigned_abs (get_or ts i d).factor) g) ≡ gcd_of (drop i ts) g
gcd_of-drop ts i g d h = rw (add-one, drop-cons ts i d) refl

gcd_of-rest : (ts us : List Term) (m g : ℕ) → us ≡ [] → gcd_of us g ≡ gcd_of ts m → g ≡ gcd_of ts m
gcd_of-rest ts us m g e h = sym (ap (λ vs. gcd_of vs g) e) ∙ h

pub divisor_end : (ts : List Term) (m g i : ℕ) → length ts ≤ i → gcd_of (drop i ts) g ≡ gcd_of ts m → max 1 g ≡ divisor ts m
unfolding divisor
divisor_end ts m g i l h =
    ap (λ n. max 1 n) (gcd_of-rest ts (drop i ts) m g (drop_of_length-le ts l) h)

gcd-one : (n : ℕ) → gcd n 1 ≡ 1
gcd-one n =
    let e : suc zero ≢ zero = omega arith in
    let m : n % 1 ≡ 0 = omega arith in
    sym (gcd_step n 1 e) ∙ gcd_end 1 (n % 1) m

gcd_of-one : (ts : List Term) → gcd_of ts 1 ≡ 1
gcd_of-one [] = refl
gcd_of-one (t ∷ ts) = ap (gcd_of ts) (gcd-one (unsigned_abs t.factor)) ∙ gcd_of-one ts

-- where the gcd so far is 1 the rest changes nothing
pub divisor_one : (ts us : List Term) (m g : ℕ) → g ≡ 1 → gcd_of us g ≡ gcd_of ts m → 1 ≡ divisor ts m
unfolding divisor
divisor_one ts us m g e h =
    let k : gcd_of ts m ≡ 1 = sym h ∙ (ap (gcd_of us) e ∙ gcd_of-one us) in
    sym (ap (λ n. max 1 n) k)

pub ruleset divisor_loop = (divisor_end, divisor_one, gcd_of-drop)
