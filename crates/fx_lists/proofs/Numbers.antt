-- Lemmas on whole numbers.
use Rattle.std.proofs.Common.{add-one, ap, arith, false, inl, inr, min, nat_eq, neg_ℤ, negsuc, pos, refl, suc, true, unsigned_abs, zero, ℕ, ℤ, ◌*ℤ◌, ◌*◌, ◌+ℤ◌, ◌+◌, ◌-◌, ◌<◌, ◌^◌, ◌∙◌, ◌≡◌, ◌≤ℤ◌, ◌≤◌}
use Rattle.std.proofs.Math.Nat.{le-mul_of_pos_right, pow-succ'}
use Rattle.std.proofs.lemmas.Bool.{and_from, and_parts, and_right, cases_lt, le-leb, leb-true, lt-leb}
use Rattle.std.proofs.lemmas.Bool.Decides.{nat_tests}
use Rattle.std.proofs.lemmas.Int.{ints}
use Rattle.std.specs.Char.{is_ascii_digit, is_ascii_uppercase}
use Rattle.std.specs.Ordering.{int_eq}
use Rattle.std.specs.Prelude.{int_le, int_lt, nat_le, nat_lt}

pub size_turned : (z : ℤ) → unsigned_abs (neg_ℤ z) ≡ unsigned_abs z
size_turned (pos zero) = refl
size_turned (pos (suc n)) = refl
size_turned (negsuc n) = refl

pub apart_of : (u v : ℕ) → nat_eq v u ≡ false → v ≡ u → ⊥
apart_of u v e q = grind (arith, nat_tests)

pub cap_mul : (c m n : ℕ) → min (min m c * n) c ≡ min (m * n) c
cap_mul c m zero = omega arith
cap_mul c m (suc n) =
    elim (cases_lt c m) [
      | inl more ↦
          let a : c ≤ c * suc n = le-mul_of_pos_right c (omega arith) in
          let b : m ≤ m * suc n = le-mul_of_pos_right m (omega arith) in
          let e : min m c ≡ c = omega arith in
          let f : min (c * suc n) c ≡ min (m * suc n) c = omega arith in
          ap (λ x. min (x * suc n) c) e ∙ f
      | inr less ↦ let e : min m c ≡ m = omega arith in ap (λ x. min (x * suc n) c) e
    ]

pub eq_refl : (v : ℕ) → nat_eq v v ≡ true
eq_refl v = grind (arith, nat_tests)

pub is_digit : (d : ℕ) → d < 10 → is_ascii_digit (48 + d) ≡ true
is_digit d h = and_from (nat_le 48 (48 + d)) (nat_le (48 + d) 57) (le-leb 48 (48 + d) (omega arith)) (le-leb (48 + d) 57 (omega arith))

pub is_number : (a b : ℤ) → int_eq a b ≡ true → a ≡ b
is_number a b e = grind (arith, ints)

pub less_false : (m n : ℤ) → int_lt m n ≡ false → n ≤ℤ m
less_false m n e = grind (arith, ints)

pub less_true : (m n : ℤ) → int_lt m n ≡ true → (m +ℤ pos 1) ≤ℤ n
less_true m n e = grind (arith, ints)

pub letter_is_no_digit : (c : ℕ) → is_ascii_uppercase c ≡ true → is_ascii_digit c ≡ false
letter_is_no_digit c h =
    let p = and_parts (nat_le 65 c) (nat_le c 90) h in
    let l = leb-true 65 c p.0 in
    and_right (nat_le 48 c) (nat_le c 57) (lt-leb c 57 (omega arith))

pub nat_eq_same : (a : ℕ) → nat_eq a a ≡ true
nat_eq_same a = grind (arith, nat_tests)

pub same_is : (a b : ℕ) → nat_eq a b ≡ true → a ≡ b
same_is a b e = grind (arith, nat_tests)

pub plus-none : (n : ℕ) → n + 0 ≡ n
plus-none n = omega arith

pub power-more : (i : ℕ) → 10 ^ (i + 1) ≡ 10 * 10 ^ i
power-more i = rw add-one (pow-succ' 10 i)

pub same_number : (n : ℕ) → nat_eq n n ≡ true
same_number n = grind (arith, nat_tests)

pub same_function : {A B : Type 0} (f g : A → B) → ((x : A) → f x ≡ g x) → f ≡ g
same_function f g h = λ i. λ x. h x i

pub swapped : (u v : ℕ) → nat_eq u v ≡ false → nat_eq v u ≡ false
swapped u v e = grind (arith, nat_tests)

pub times_0 : (n : ℕ) → pos n *ℤ pos 0 ≡ pos 0
times_0 n = let z : pos n *ℤ pos 0 ≡ pos (n * 0) = refl in let y : n * 0 ≡ 0 = omega arith in z ∙ ap pos y

pub at_most_true : (m n : ℤ) → int_le m n ≡ true → m ≤ℤ n
at_most_true m n e = grind (arith, ints)

pub at_most_is : (m n : ℤ) → m ≤ℤ n → int_le m n ≡ true
at_most_is m n e = grind (arith, ints)

pub below_true : (m n : ℕ) → nat_lt m n ≡ true → m < n
below_true m n e = grind (arith, nat_tests)

pub below_false : (m n : ℕ) → nat_lt m n ≡ false → n ≤ m
below_false m n e = grind (arith, nat_tests)

pub below_is : (m n : ℕ) → m < n → nat_lt m n ≡ true
below_is m n h = grind (arith, nat_tests)

pub unequal_numbers : (m n : ℕ) → (m ≡ n → ⊥) → nat_eq m n ≡ false
unequal_numbers m n h = grind (arith, nat_tests)

pub one_less : (n : ℕ) → suc n - 1 ≡ n
one_less n = omega arith
