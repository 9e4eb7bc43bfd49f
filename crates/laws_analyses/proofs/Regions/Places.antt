-- Where the iterations of a DO stand, one after the other.
use Rattle.std.proofs.Common.{◌≡◌, ℕ, zero, suc, ◌+◌, ◌*◌, ◌≤◌, arith, ℤ, pos, negsuc, neg_ℤ, ◌+ℤ◌, ◌*ℤ◌, refl, sym, subst, Bool, true, false}
use Rattle.std.proofs.lemmas.Int.{ints}
use Rattle.std.proofs.Math.Nat.{mul-le-mul_left}
use Rattle.preconditions.specs.transformer_algebra.Loops.{goes_up}
use Rattle.preconditions.specs.transformer_algebra.Claims.{NotBeyond, Beyond}
use Rattle.laws_analyses.proofs.Statements.Counts.{NotZero}

upwards : (n : ℕ) → goes_up (pos (suc n)) ≡ true
upwards n = grind (arith, ints)

downwards : (n : ℕ) → goes_up (negsuc n) ≡ false
downwards n = grind (arith, ints)

pub first_place : (a s : ℤ) → a ≡ a +ℤ (s *ℤ pos 0)
first_place a s = let z : s *ℤ pos 0 ≡ pos 0 = omega (arith, ints) in omega (arith, ints)

pub next_place : (a s m : ℤ) (d : ℕ) → m ≡ a +ℤ (s *ℤ pos d) → (m +ℤ s) ≡ a +ℤ (s *ℤ pos (suc d))
next_place a (pos n) m d e =
    let x : pos n *ℤ pos d ≡ pos (n * d) = refl in
    let y : pos n *ℤ pos (suc d) ≡ pos (n * suc d) = refl in
    let z : n * suc d ≡ n * d + n = omega arith in
    omega (arith, ints)
next_place a (negsuc n) m d e =
    let x : negsuc n *ℤ pos d ≡ neg_ℤ (pos (suc n * d)) = refl in
    let y : negsuc n *ℤ pos (suc d) ≡ neg_ℤ (pos (suc n * suc d)) = refl in
    let z : suc n * suc d ≡ suc n * d + suc n = omega arith in
    omega (arith, ints)

pub next_after : (a s m : ℤ) → NotZero s → NotBeyond (goes_up s) a m → NotBeyond (goes_up s) a (m +ℤ s)
next_after a (pos zero) m z e = absurd z
next_after a (pos (suc n)) m z e = let h = subst (λ d. NotBeyond d a m) (upwards n) e in subst (λ d. NotBeyond d a (m +ℤ pos (suc n))) (sym (upwards n)) (omega (arith, ints, h))
next_after a (negsuc n) m z e = let h = subst (λ d. NotBeyond d a m) (downwards n) e in subst (λ d. NotBeyond d a (m +ℤ negsuc n)) (sym (downwards n)) (omega (arith, ints, h))

pub first_after : (a s : ℤ) → NotBeyond (goes_up s) a a
first_after a s = go (goes_up s)
  where
    go : (b : Bool) → NotBeyond b a a
    go true = omega (arith, ints)
    go false = omega (arith, ints)

-- none of them is past the end
pub not_past : (a b s m q : ℤ) (d j : ℕ) → NotZero s → d ≤ j → m ≡ a +ℤ (s *ℤ pos d) → q ≡ a +ℤ (s *ℤ pos j) → Beyond (goes_up s) m b → NotBeyond (goes_up s) q b → ⊥
not_past a b (pos zero) m q d j z l e f g h = z
not_past a b (pos (suc n)) m q d j z l e f g' h' =
    let g = subst (λ d. Beyond d m b) (upwards n) g' in
    let h = subst (λ d. NotBeyond d q b) (upwards n) h' in
    let x : pos (suc n) *ℤ pos d ≡ pos (suc n * d) = refl in
    let y : pos (suc n) *ℤ pos j ≡ pos (suc n * j) = refl in
    let k : suc n * d ≤ suc n * j = mul-le-mul_left (suc n) l in
    omega (arith, ints, x, y, k, e, f, g, h)
not_past a b (negsuc n) m q d j z l e f g' h' =
    let g = subst (λ d. Beyond d m b) (downwards n) g' in
    let h = subst (λ d. NotBeyond d q b) (downwards n) h' in
    let x : negsuc n *ℤ pos d ≡ neg_ℤ (pos (suc n * d)) = refl in
    let y : negsuc n *ℤ pos j ≡ neg_ℤ (pos (suc n * j)) = refl in
    let k : suc n * d ≤ suc n * j = mul-le-mul_left (suc n) l in
    omega (arith, ints, x, y, k, e, f, g, h)

pub zero_not : (s : ℤ) → NotZero s → s ≡ pos 0 → ⊥
zero_not (pos zero) z e = z
zero_not (pos (suc n)) z e = omega (arith, ints, e)
zero_not (negsuc n) z e = omega (arith, ints, e)
