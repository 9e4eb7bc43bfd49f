-- The rows that compare forms: they may be given to the calls on systems, and they hold where the comparison does.
use Rattle.std.proofs.Common.{◌≡◌, ℕ, Bool, true, false, List, [], ◌∷◌, ℤ, pos, negsuc, ◌+ℤ◌, ◌-ℤ◌, ◌*ℤ◌, ◌≤ℤ◌, ◌<◌, ◌^◌, unsigned_abs, arith, refl, sym, subst}
use Rattle.std.proofs.lemmas.Int.{ints}
use Rattle.affine_systems.specs.declared.row.Var.{Var}
use Rattle.affine_systems.specs.declared.row.Term.{Term}
use Rattle.affine_systems.specs.declared.row.Row.{Row}
use Rattle.affine_systems.specs.Rows.{row, system, AllRows}
use Rattle.affine_systems.specs.Points.{Point, Holds, HoldsAll}
use Rattle.affine_systems.specs.Given.{IsGiven, IsSmallRow}
use Rattle.affine_systems.proofs.FitLaws.{combined_given}
use Rattle.affine_systems.proofs.ElimLaws.{value-combined}
use Rattle.affine_systems.proofs.TidyLaws.{tidy_holds}
use Rattle.affine_forms.specs.declared.affine.Affine.{Affine}
use Rattle.affine_forms.specs.Forms.{IsSmallForm}
use Rattle.affine_forms.specs.Comparisons.{difference, var_form, at_most_row, below_row, same_row, one_row}
use Rattle.affine_forms.specs.Claims.{form_value}

form_row : (e : Bool) (f : Affine) → IsSmallForm f → IsSmallRow (row e f.terms (pos 0))
form_row e f h = (h.0.0, omega arith, h.0.1)

-- the terms of a difference with a bound that is not too large
pub difference_given : (e : Bool) (ts : List Term) (b : ℤ) (f g : Affine) → ts ≡ difference f g → IsSmallForm f → IsSmallForm g → unsigned_abs b < 2 ^ 126 → IsGiven (row e ts b)
difference_given e ts b f g q h k l =
    let c = combined_given e (pos 1) (row e f.terms (pos 0)) (negsuc 0) (row e g.terms (pos 0)) (omega arith) (omega arith) (form_row e f h) (form_row e g k) in
    subst (λ us. IsGiven (row e us b)) (sym q) (c.0, l, c.2)

pub var_small : (v : Var) → IsSmallForm (var_form v)
var_small v = (((refl, tt, tt), (omega arith, tt)), omega arith)

pub at_most_holds : (f g : Affine) (p : Point) → form_value p f ≤ℤ form_value p g → Holds p (at_most_row f g)
at_most_holds f g p h = let v = value-combined p (pos 1) f.terms (negsuc 0) g.terms in omega (arith, ints, v, h)

pub below_holds : (f g : Affine) (p : Point) → (form_value p f +ℤ pos 1) ≤ℤ form_value p g → Holds p (below_row f g)
below_holds f g p h = let v = value-combined p (pos 1) f.terms (negsuc 0) g.terms in omega (arith, ints, v, h)

pub same_holds : (f g : Affine) (p : Point) → form_value p f ≡ form_value p g → Holds p (same_row f g)
same_holds f g p h = let v = value-combined p (pos 1) f.terms (negsuc 0) g.terms in omega (arith, ints, v, h)

pub one_holds : (r : Row) (p : Point) → Holds p r → HoldsAll p (one_row r).rows
one_holds r p h = tidy_holds p (system (r ∷ []) false) (h, tt)
