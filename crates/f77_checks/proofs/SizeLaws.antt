-- Dimensions one after another, and their units.
use Rattle.std.proofs.Common.{◌≡◌, ℕ, suc, zero, ◌-◌, ◌*◌, ◌^◌, ◌<◌, ◌≤◌, min, true, false, nat_eq, List, [], ◌∷◌, ◌++◌, length, map, drop, Option, Some, None, refl, sym, ap, ◌∙◌, arith, inl, inr, append_assoc, append-nil}
use Rattle.std.specs.Prelude.{nat_lt}
use Rattle.std.proofs.lemmas.Bool.{cases_lt}
use Rattle.std.proofs.lemmas.Bool.Decides.{eqb_tells, nat_tests}
use Rattle.std.proofs.Math.Nat.{le-mul_of_pos_right, mul_assoc}
use Rattle.f77_ast.specs.Places.{Dim, dim_size, total_size}
use Rattle.f77_ast.proofs.PlainlyDecl.{decl_lists}
use Rattle.f77_ast.specs.Symbols.{BoundTree}
use Rattle.f77_checks.specs.Dimensions.{is_last, with_dim, is_too_big}
use Rattle.f77_checks.specs.Sizes.{capped, capped_units, is_above}
use Rattle.fx_lists.proofs.Numbers.{cap_mul as cap-mul}

-- ---- the last bound

later : {A : Type 0} (f : A → BoundTree) (xs : List A) (k : ℕ) → k < length xs → is_last (map f (drop k xs)) ≡ false
later f [] k h = absurd (omega arith)
later f (x ∷ xs) zero h = refl
later f (x ∷ xs) (suc k) h = later f xs k (omega arith)

past : {A : Type 0} (f : A → BoundTree) (xs : List A) (k : ℕ) → k ≡ length xs → is_last (map f (drop k xs)) ≡ true
past f [] zero h = refl
past f [] (suc k) h = absurd (omega arith)
past f (x ∷ xs) zero h = absurd (omega arith)
past f (x ∷ xs) (suc k) h = past f xs k (omega arith)

pub is_last-drop : {A : Type 0} (f : A → BoundTree) (xs : List A) (k : ℕ) → k ≤ length xs → is_last (map f (drop k xs)) ≡ nat_eq k (length xs)
is_last-drop f xs k h =
    elim (eqb_tells k (length xs)) [ inl w ↦ past f xs k w.1 ∙ sym w.0 | inr w ↦ later f xs k (omega (arith, w.1)) ∙ sym w.0 ]

-- ---- products in 64 bits

pub capped_units-more : (n : ℕ) (d : Dim) (o : Option (List Dim)) → capped_units n (with_dim (Some d) o) ≡ capped_units (capped (n * dim_size d)) o
capped_units-more n d None = refl
capped_units-more n d (Some ds) = ap Some (ap capped (sym (mul_assoc n (dim_size d) (total_size ds))) ∙ sym (cap-mul (2 ^ 64 - 1) (n * dim_size d) (total_size ds)))

pub capped_units-end : (n : ℕ) → n < 2 ^ 64 → capped_units n (Some []) ≡ Some n
capped_units-end n h = let e : min (n * 1) (2 ^ 64 - 1) ≡ n = omega arith in ap Some e

pub is_above-units : (o : Option (List Dim)) → is_above (capped_units 1 o) ≡ is_too_big o
is_above-units None = refl
is_above-units (Some ds) = above (total_size ds)
  where
    above : (n : ℕ) → nat_lt 2147483647 (min (1 * n) (2 ^ 64 - 1)) ≡ nat_lt 2147483647 n
    above n = grind (arith, nat_tests)

-- ---- dimensions behind others

abbrev pub behind : List Dim → Option (List Dim) → Option (List Dim)
behind ds None = None
behind ds (Some es) = Some (ds ++ es)

pub behind-more : (ds : List Dim) (d : Dim) (o : Option (List Dim)) → behind ds (with_dim (Some d) o) ≡ behind (ds ++ d ∷ []) o
behind-more ds d None = refl
behind-more ds d (Some es) = ap Some (sym (append_assoc ds (d ∷ []) es))

pub behind-end : (ds : List Dim) → behind ds (Some []) ≡ Some ds
behind-end ds = ap Some (append-nil ds)

-- ---- rulesets

pub ruleset last_bounds = (is_last-drop, decl_lists)

pub ruleset unit_steps = (capped_units-more, capped_units-end, is_above-units, decl_lists)

pub ruleset size_steps = (behind-more, behind-end, decl_lists)
