-- Numbers from one bound to another, counted, and products of them.
use Rattle.std.proofs.Common.{◌≡◌, ℕ, zero, suc, ◌+◌, ◌-◌, ◌*◌, ◌≤◌, min, max, sym, ap, ◌∙◌, ℤ, pos, negsuc, ◌≤ℤ◌, refl, inl, inr, arith}
use Rattle.std.specs.Prelude.{nat_lt, ◌&&◌}
use Rattle.std.proofs.lemmas.Bool.{cases_lt}
use Rattle.std.proofs.lemmas.Bool.Decides.{nat_tests}
use Rattle.std.proofs.lemmas.Int.{ints}
use Rattle.std.proofs.Math.Nat.{le-mul_of_pos_right, mul_assoc}
use Rattle.std.specs.Int.RustNames.{unsigned_abs}
use Rattle.std.specs.Prelude.{◌<ℤ◌}
use Rattle.f77_ast.specs.Places.{as_count}
use Rattle.f77_ast.proofs.PlainlyDecl.{decl_lists}
use Rattle.fx_lists.proofs.Numbers.{cap_mul}

pub as_count-none : (z : ℤ) → z <ℤ pos 0 → as_count z ≡ 0
as_count-none (pos n) h = absurd (omega (arith, ints))
as_count-none (negsuc n) h = refl

pub as_count-all : (z : ℤ) → pos 0 ≤ℤ z → as_count z ≡ unsigned_abs z
as_count-all (pos n) h = refl
as_count-all (negsuc n) h = absurd (omega (arith, ints))

pub as_count-is : (n : ℕ) (y z : ℤ) → n ≡ unsigned_abs y → y ≡ z → pos 0 ≤ℤ z → n ≡ as_count z
as_count-is n y z h e p = h ∙ ap unsigned_abs e ∙ sym (as_count-all z p)

-- ---- products, as far as they have 128 bits

-- a factor more
pub one_more : (c m n k : ℕ) → min (min (m * n) c * k) c ≡ min (m * (n * k)) c
one_more c m n k = cap_mul c (m * n) k ∙ ap (λ x. min x c) (mul_assoc m n k)

pub none_more : (c m : ℕ) → m ≤ c → min (m * 1) c ≡ m
none_more c m h = omega arith

pub ruleset unit_steps = (one_more, decl_lists)

-- ---- two stretches of units have the first unit of the later one, or none

pub later_first : (m n x y : ℕ) → nat_lt (max x y) (min (x + m) (y + n)) ≡ (nat_lt (max x y - x) m && nat_lt (max x y - y) n)
later_first m n x y = grind (arith, nat_tests)

pub ruleset meet_tests = (later_first)
