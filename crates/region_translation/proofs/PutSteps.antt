-- A row that says what an auxiliary variable is may be put in.
use Rattle.std.proofs.Common.{◌≡◌, ℕ, true, ◌&&◌}
use Rattle.std.specs.Prelude.{not}
use Rattle.std.proofs.lemmas.Bool.{and_parts}
use Rattle.affine_systems.specs.declared.row.Var.TheVariants.{Aux}
use Rattle.affine_systems.specs.declared.row.Row.{Row}
use Rattle.affine_systems.specs.Points.{factor_of}
use Rattle.affine_systems.specs.Tidy.{is_unit}
use Rattle.affine_systems.specs.Given.{IsNormal}
use Rattle.region_translation.specs.Pieces.{has_other_aux, IsAuxRow}

pub aux_normal : (n : ℕ) (e : Row) → IsAuxRow n e → IsNormal e
aux_normal n e h = h.normal

pub aux_equal : (n : ℕ) (e : Row) → IsAuxRow n e → e.equal ≡ true
aux_equal n e h = (and_parts e.equal (is_unit (factor_of (Aux n) e.terms) && not (has_other_aux n e.terms)) h.says).0

pub aux_unit : (n : ℕ) (e : Row) → IsAuxRow n e → is_unit (factor_of (Aux n) e.terms) ≡ true
aux_unit n e h = (and_parts (is_unit (factor_of (Aux n) e.terms)) (not (has_other_aux n e.terms)) (and_parts e.equal (is_unit (factor_of (Aux n) e.terms) && not (has_other_aux n e.terms)) h.says).1).0

pub ruleset aux_rows = (aux_normal, aux_equal, aux_unit)
