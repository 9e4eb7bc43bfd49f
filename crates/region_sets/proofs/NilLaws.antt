-- Rows without a variable: the terms come to 0 at the point that is 1 there and 0 elsewhere.
use Rattle.std.proofs.Common.{◌≡◌, Bool, true, false, ◌||◌, List, [], ◌∷◌, ℤ, pos, negsuc, neg_ℤ, ◌+ℤ◌, ◌*ℤ◌, arith, ap, refl, sym, ◌∙◌}
use Rattle.std.specs.Prelude.{if◌then◌else◌}
use Rattle.std.proofs.lemmas.Int.{ints}
use Rattle.std.proofs.lemmas.Bool.Decides.{nat_tests}
use Rattle.affine_systems.specs.declared.row.Var.{Var}
use Rattle.affine_systems.specs.declared.row.Term.{Term}
use Rattle.affine_systems.specs.declared.row.Row.{Row}
use Rattle.affine_systems.specs.Terms.{var_eq}
use Rattle.affine_systems.specs.Points.{Point, value, only, factor_of}
use Rattle.affine_systems.specs.Tidy.{is_unit, by_row}
use Rattle.affine_systems.proofs.Basics.{mul_assoc, neg_mul}
use Rattle.affine_systems.proofs.ElimLaws.{value-combined}
use Rattle.affine_systems.proofs.LackLaws.{Nil, factor-only}
use Rattle.region_sets.specs.Naming.{in_terms}
use Rattle.fx_lists.proofs.Booleans.{clash as clashes}

-- ---- rows with another put in

pub by_row_nil : (u : Point) (r : Row) (v : Var) (e : Row) → Nil u r → Nil u e → Nil u (by_row r v e)
by_row_nil u r v e h k =
    let c = neg_ℤ (factor_of v r.terms *ℤ factor_of v e.terms) in
    value-combined u (pos 1) r.terms c e.terms ∙ sums c (value u r.terms) (value u e.terms) h k
  where
    sums : (c x y : ℤ) → x ≡ pos 0 → y ≡ pos 0 → (pos 1 *ℤ x) +ℤ (c *ℤ y) ≡ pos 0
    sums c x y h k =
        let n : c *ℤ y ≡ c *ℤ pos 0 = ap (λ z. c *ℤ z) k in
        omega (arith, ints, h, n)

unit_square : (z : ℤ) → is_unit z ≡ true → z *ℤ z ≡ pos 1
unit_square (pos n) e = let h : n ≡ 1 = grind (arith, nat_tests) in rw h refl
unit_square (negsuc n) e = let h : n ≡ 0 = grind (arith, nat_tests) in rw h refl

-- the variable that is put in is gone
pub by_row_gone : (r : Row) (v : Var) (e : Row) → is_unit (factor_of v e.terms) ≡ true → Nil (only v) (by_row r v e)
by_row_gone r v e t =
    let f = factor_of v r.terms in
    let g = factor_of v e.terms in
    let x : value (only v) r.terms ≡ f = sym (factor-only v r.terms) in
    let y : value (only v) e.terms ≡ g = sym (factor-only v e.terms) in
    value-combined (only v) (pos 1) r.terms (neg_ℤ (f *ℤ g)) e.terms
    ∙ (ap (λ z. (pos 1 *ℤ z) +ℤ (neg_ℤ (f *ℤ g) *ℤ value (only v) e.terms)) x ∙ (ap (λ z. (pos 1 *ℤ f) +ℤ (neg_ℤ (f *ℤ g) *ℤ z)) y ∙ cancels f g (unit_square g t)))
  where
    cancels : (f g : ℤ) → g *ℤ g ≡ pos 1 → (pos 1 *ℤ f) +ℤ (neg_ℤ (f *ℤ g) *ℤ g) ≡ pos 0
    cancels f g h =
        let a : neg_ℤ (f *ℤ g) *ℤ g ≡ neg_ℤ ((f *ℤ g) *ℤ g) = neg_mul (f *ℤ g) g in
        let b : (f *ℤ g) *ℤ g ≡ f *ℤ pos 1 = mul_assoc f g g ∙ ap (λ z. f *ℤ z) h in
        omega (arith, ints, a, b)

-- ---- terms without a variable

pub off_terms : (v : Var) (ts : List Term) → in_terms v ts ≡ false → value (only v) ts ≡ pos 0
off_terms v [] h = refl
off_terms v (t ∷ ts) h = go (var_eq v t.var) h (λ k. off_terms v ts k)
  where
    go : (b : Bool) → (b || in_terms v ts) ≡ false → (in_terms v ts ≡ false → value (only v) ts ≡ pos 0) → (t.factor *ℤ (if b then pos 1 else pos 0)) +ℤ value (only v) ts ≡ pos 0
    go true k f = clashes true refl k
    go false k f = let ih = f k in omega (arith, ints, ih)
