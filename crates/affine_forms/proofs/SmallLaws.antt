-- Forms with small numbers.
use Rattle.std.proofs.Common.{◌≡◌, ℕ, ◌+◌, ◌<◌, ◌^◌, Bool, true, false, ◌&&◌, List, length, get_or, drop, Option, Some, None, ℤ, pos, ◌+ℤ◌, ◌*ℤ◌, arith, refl, ap₂, ◌∙◌, add-one, to_z, of_z, to_z-of_z}
use Rattle.std.specs.Int.{w128}
use Rattle.std.specs.Prelude.{if◌then◌else◌, unsigned_abs, IfSome}
use Rattle.std.proofs.Math.Seq.{drop-cons}
use Rattle.std.proofs.lemmas.Int.{ints, fits_signed_from_abs}
use Rattle.affine_systems.specs.declared.row.Term.{Term}
use Rattle.affine_systems.specs.Terms.{Ascends}
use Rattle.affine_systems.specs.Normal.{is_small, are_small}
use Rattle.affine_systems.proofs.AscendLaws.{ascends-combined}
use Rattle.affine_systems.proofs.FitLaws.{small_is, small_factors}
use Rattle.affine_forms.specs.declared.affine.Affine.{Affine}
use Rattle.affine_forms.specs.Forms.{IsSmallForm, affine, limited}

pub are_small-drop : (ts : List Term) (i : ℕ) (d : Term) → i < length ts → are_small (drop i ts) ≡ (is_small (get_or ts i d).factor && are_small (drop (i + 1) ts))
are_small-drop ts i d h = rw (add-one, drop-cons ts i d)

pub ruleset are_small_loop = (are_small-drop)

pub limited_is_small : (f : Affine) → Ascends f.terms → IfSome (limited f) IsSmallForm
limited_is_small f a =
    go (is_small f.constant) (are_small f.terms) refl refl
  where
    go : (b c : Bool) → is_small f.constant ≡ b → are_small f.terms ≡ c → IfSome (if b && c then Some f else None) IsSmallForm
    go true true e h = ((a, small_factors f.terms h), small_is f.constant e)
    go true false e h = tt
    go false c e h = tt

pub one_times : (x y : ℤ) → (pos 1 *ℤ x) +ℤ y ≡ x +ℤ y
one_times x y = omega (arith, ints)

pub plus_nothing : (x : ℤ) → x +ℤ (pos 0 *ℤ pos 0) ≡ x
plus_nothing x = omega (arith, ints)

pub ruleset sums = (ascends-combined, one_times, plus_nothing)

pub limited_same : (r : Option Affine) (ts us : List Term) (x y : ℤ) → r ≡ limited (affine ts x) → ts ≡ us → x ≡ y → r ≡ limited (affine us y)
limited_same r ts us x y e p q = e ∙ ap₂ (λ vs z. limited (affine vs z)) p q

-- a number goes through a register unchanged
pub unchanged : (z : ℤ) → unsigned_abs z < 2 ^ 126 → to_z w128 (of_z w128 z) ≡ z
unchanged z h = to_z-of_z (fits_signed_from_abs w128 z (omega arith))

pub small_unchanged : (z : ℤ) → unsigned_abs z < 2 ^ 62 → to_z w128 (of_z w128 z) ≡ z
small_unchanged z h = unchanged z (omega arith)
