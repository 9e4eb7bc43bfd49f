-- How many turns a DO has left, and where its index stands.
use Rattle.std.proofs.Common.{◌≡◌, ℕ, Bool, true, false, true≢false, zero, suc, ◌+◌, ◌*◌, ◌/◌, ◌%◌, ◌-◌, ◌<◌, ◌≤◌, refl, sym, ap, ◌∙◌, subst, arith, ℤ, pos, negsuc, neg_ℤ, ◌+ℤ◌, ◌-ℤ◌, ◌≤ℤ◌, int_div}
use native.Mathlib.Nat.{div-add-mod', mod-lt}
use Rattle.std.proofs.lemmas.Int.{ints}
use Rattle.std.proofs.lemmas.Nat.{div-mul-add}
use Rattle.std.specs.Prelude.{int_lt}
use Rattle.std.specs.Ordering.{int_eq}
use Rattle.f77_ast.specs.Places.{as_count}
use Rattle.f77_ast.specs.Loops.{iteration_count}
use Rattle.preconditions.specs.transformer_algebra.Loops.{goes_up}
use Rattle.preconditions.specs.transformer_algebra.Claims.{NotBeyond, Beyond}
use Rattle.fx_lists.proofs.Numbers.{less_false, less_true}

below : (a w : ℕ) → 0 < w → a / w ≡ 0 → a < w
below a w h e = let m = mod-lt a h in let d = div-add-mod' a w in let d' : 0 * w + a % w ≡ a = subst (λ q. q * w + a % w ≡ a) e d in omega arith

at_least : (a w k : ℕ) → a / w ≡ suc k → w ≤ a
at_least a w k e = let d' : suc k * w + a % w ≡ a = subst (λ q. q * w + a % w ≡ a) e (div-add-mod' a w) in omega arith

one_less : (a w k : ℕ) → 0 < w → a / w ≡ suc k → (a - w) / w ≡ k
one_less a w k h e =
    let d' : suc k * w + a % w ≡ a = subst (λ q. q * w + a % w ≡ a) e (div-add-mod' a w) in
    let f : a - w ≡ k * w + a % w = omega arith in
    ap (λ x. x / w) f ∙ div-mul-add k w (a % w) (mod-lt a h)

no_count : (n : ℕ) → as_count (neg_ℤ (pos n)) ≡ 0
no_count zero = refl
no_count (suc n) = refl

-- upwards: x is last - m + step
pub record Up (x : ℤ) (n k : ℕ) : Type 0 where
  pub least : pos (suc n) ≤ℤ x
  pub rest : as_count (int_div (x -ℤ pos (suc n)) (pos (suc n))) ≡ k

up_more : (x : ℤ) (n k : ℕ) → as_count (int_div x (pos (suc n))) ≡ suc k → Up x n k
up_more (pos a) n k e =
    let l = at_least a (suc n) k e in
    let f : pos a -ℤ pos (suc n) ≡ pos (a - suc n) = omega (arith, ints) in
    record { least = omega (arith, ints); rest = ap (λ y. as_count (int_div y (pos (suc n)))) f ∙ one_less a (suc n) k (omega arith) e }
up_more (negsuc a) n k e = absurd (omega (arith, sym (no_count (suc a / suc n)) ∙ e))

up_none : (x : ℤ) (n : ℕ) → as_count (int_div x (pos (suc n))) ≡ 0 → (x +ℤ pos 1) ≤ℤ pos (suc n)
up_none (pos a) n e = let l = below a (suc n) (omega arith) e in omega (arith, ints)
up_none (negsuc a) n e = omega (arith, ints)

none_in : (n : ℕ) → 0 / suc n ≡ 0
none_in n = omega (arith, div-add-mod' 0 (suc n), mod-lt 0 (number_of n))
  where
    number_of : (n : ℕ) → 0 < suc n
    number_of n = omega arith

count_neg : (d n : ℕ) → as_count (int_div (neg_ℤ (pos d)) (negsuc n)) ≡ d / suc n
count_neg zero n = no_count (0 / suc n) ∙ sym (none_in n)
count_neg (suc d) n = refl

less_neg : (a n : ℕ) → suc n ≤ suc a → negsuc a -ℤ negsuc n ≡ neg_ℤ (pos (suc a - suc n))
less_neg a n h = omega (arith, ints)

-- downwards
pub record Down (x : ℤ) (n k : ℕ) : Type 0 where
  pub most : x ≤ℤ negsuc n
  pub rest : as_count (int_div (x -ℤ negsuc n) (negsuc n)) ≡ k

down_more : (x : ℤ) (n k : ℕ) → as_count (int_div x (negsuc n)) ≡ suc k → Down x n k
down_more (pos a) n k e = absurd (omega (arith, sym (no_count (a / suc n)) ∙ e))
down_more (negsuc a) n k e =
    let l = at_least (suc a) (suc n) k e in
    let f = one_less (suc a) (suc n) k (omega arith) e in
    record { most = omega (arith, ints); rest = ap (λ y. as_count (int_div y (negsuc n))) (less_neg a n l) ∙ count_neg (suc a - suc n) n ∙ f }

down_none : (x : ℤ) (n : ℕ) → as_count (int_div x (negsuc n)) ≡ 0 → (negsuc n +ℤ pos 1) ≤ℤ x
down_none (pos a) n e = omega (arith, ints)
down_none (negsuc a) n e = let l = below (suc a) (suc n) (omega arith) e in omega (arith, ints)

upwards : (n : ℕ) → goes_up (pos (suc n)) ≡ true
upwards n = go (int_lt (pos 0) (pos (suc n))) refl
  where
    go : (b : Bool) → int_lt (pos 0) (pos (suc n)) ≡ b → b ≡ true
    go true e = refl
    go false e = let h = less_false (pos 0) (pos (suc n)) e in absurd (omega (arith, ints, h))

downwards : (n : ℕ) → goes_up (negsuc n) ≡ false
downwards n = go (int_lt (pos 0) (negsuc n)) refl
  where
    go : (b : Bool) → int_lt (pos 0) (negsuc n) ≡ b → b ≡ false
    go true e = let h = less_true (pos 0) (negsuc n) e in absurd (omega (arith, ints, h))
    go false e = refl

-- m is not beyond b, and the turns from the next number on are one fewer
pub record More (m b s : ℤ) (k : ℕ) : Type 0 where
  pub in_range : NotBeyond (goes_up s) m b
  pub rest : iteration_count (m +ℤ s) b s ≡ k

abbrev pub NotZero : ℤ → Type 0
NotZero (pos zero) = ⊥
NotZero (pos (suc n)) = Unit {0}
NotZero (negsuc n) = Unit {0}

pub not_zero : (s : ℤ) → int_eq s (pos 0) ≡ false → NotZero s
not_zero (pos zero) e = true≢false e
not_zero (pos (suc n)) e = tt
not_zero (negsuc n) e = tt

pub count_more : (m b s : ℤ) (k : ℕ) → NotZero s → iteration_count m b s ≡ suc k → More m b s k
count_more m b (pos zero) k z e = absurd z
count_more m b (pos (suc n)) k z e =
    let u = up_more ((b -ℤ m) +ℤ pos (suc n)) n k e in
    let h = u.least in
    let f : (b -ℤ (m +ℤ pos (suc n))) +ℤ pos (suc n) ≡ ((b -ℤ m) +ℤ pos (suc n)) -ℤ pos (suc n) = omega (arith, ints) in
    record { in_range = subst (λ d. NotBeyond d m b) (sym (upwards n)) (omega (arith, ints)); rest = ap (λ y. as_count (int_div y (pos (suc n)))) f ∙ u.rest }
count_more m b (negsuc n) k z e =
    let u = down_more ((b -ℤ m) +ℤ negsuc n) n k e in
    let h = u.most in
    let f : (b -ℤ (m +ℤ negsuc n)) +ℤ negsuc n ≡ ((b -ℤ m) +ℤ negsuc n) -ℤ negsuc n = omega (arith, ints) in
    record { in_range = subst (λ d. NotBeyond d m b) (sym (downwards n)) (omega (arith, ints)); rest = ap (λ y. as_count (int_div y (negsuc n))) f ∙ u.rest }

pub count_none : (m b s : ℤ) → NotZero s → iteration_count m b s ≡ 0 → Beyond (goes_up s) m b
count_none m b (pos zero) z e = absurd z
count_none m b (pos (suc n)) z e = let h = up_none ((b -ℤ m) +ℤ pos (suc n)) n e in subst (λ d. Beyond d m b) (sym (upwards n)) (omega (arith, ints))
count_none m b (negsuc n) z e = let h = down_none ((b -ℤ m) +ℤ negsuc n) n e in subst (λ d. Beyond d m b) (sym (downwards n)) (omega (arith, ints))
