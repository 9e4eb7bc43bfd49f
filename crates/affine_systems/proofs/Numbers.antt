-- Products and sums of numbers that fit.
use Rattle.std.proofs.Common.{◌≡◌, ◌<◌, ◌≤◌, ◌^◌, ℤ, ◌+ℤ◌, ◌*ℤ◌, arith, ap, ap₂, ◌∙◌, sym, subst, SFits, to_z, of_z, to_z-of_z, unsigned_abs}
use Rattle.std.specs.Int.{w128}
use Rattle.std.proofs.lemmas.Int.{fits_signed_from_abs}
use Rattle.affine_systems.proofs.FitLaws.{product_below, abs_sum}

pub small_fits : (z : ℤ) → unsigned_abs z < 2 ^ 126 → SFits w128 z
small_fits z h = fits_signed_from_abs w128 z (omega arith)

-- a product as the code computes it
pub product_fits : (x y : ℤ) → unsigned_abs x < 2 ^ 62 → unsigned_abs y < 2 ^ 62 → to_z w128 (of_z w128 (to_z w128 (of_z w128 x) *ℤ to_z w128 (of_z w128 y))) ≡ x *ℤ y
product_fits x y h k =
    let e = ap₂ (λ a b. a *ℤ b) (to_z-of_z (small_fits x (omega arith))) (to_z-of_z (small_fits y (omega arith))) in
    let b = product_below x y h k in
    ap (λ z. to_z w128 (of_z w128 z)) e ∙ to_z-of_z (small_fits (x *ℤ y) (omega arith))

-- a sum as the code computes it
pub sum_fits : (x y : ℤ) → unsigned_abs x ≤ 2 ^ 124 → unsigned_abs y ≤ 2 ^ 124 → to_z w128 (of_z w128 (to_z w128 (of_z w128 x) +ℤ to_z w128 (of_z w128 y))) ≡ x +ℤ y
sum_fits x y h k =
    let e = ap₂ (λ a b. a +ℤ b) (to_z-of_z (small_fits x (omega arith))) (to_z-of_z (small_fits y (omega arith))) in
    let b = abs_sum x y in
    ap (λ z. to_z w128 (of_z w128 z)) e ∙ to_z-of_z (small_fits (x +ℤ y) (omega arith))

pub sum_in_range : (x y : ℤ) → unsigned_abs x ≤ 2 ^ 124 → unsigned_abs y ≤ 2 ^ 124 → SFits w128 (to_z w128 (of_z w128 x) +ℤ to_z w128 (of_z w128 y))
sum_in_range x y h k =
    let e = ap₂ (λ a b. a +ℤ b) (to_z-of_z (small_fits x (omega arith))) (to_z-of_z (small_fits y (omega arith))) in
    let b = abs_sum x y in
    subst (SFits w128) (sym e) (small_fits (x +ℤ y) (omega arith))
