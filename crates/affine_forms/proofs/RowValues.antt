-- The values of a number, of a variable, and of both sides of an equation.
use Rattle.std.proofs.Common.{◌≡◌, [], ℤ, pos, negsuc, arith}
use Rattle.std.proofs.lemmas.Int.{ints}
use Rattle.affine_systems.specs.declared.row.Var.{Var}
use Rattle.affine_systems.specs.Points.{Point, Holds}
use Rattle.affine_systems.proofs.ElimLaws.{value-combined}
use Rattle.affine_forms.specs.declared.affine.Affine.{Affine}
use Rattle.affine_forms.specs.Forms.{affine}
use Rattle.affine_forms.specs.Claims.{form_value}
use Rattle.affine_forms.specs.Comparisons.{var_form, same_row}

pub constant_value : (p : Point) (n : ℤ) → form_value p (affine [] n) ≡ n
constant_value p n = omega (arith, ints)

pub var_value : (p : Point) (v : Var) → form_value p (var_form v) ≡ p v
var_value p v = omega (arith, ints)

pub same_back : (f g : Affine) (p : Point) → Holds p (same_row f g) → form_value p f ≡ form_value p g
same_back f g p h = let v = value-combined p (pos 1) f.terms (negsuc 0) g.terms in omega (arith, ints, v, h)
