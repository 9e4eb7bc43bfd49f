-- Sums of forms, with none where a number reaches 2^62.
use Rattle.std.specs.Prelude.{Bool, true, false, ◌&&◌, not, List, [], ◌∷◌, ℕ, Option, Some, None, if◌then◌else◌, pos, negsuc}
use Rattle.std.specs.Ordering.{int_eq}
use Rattle.affine_systems.specs.declared.row.Var.{Var}
use Rattle.affine_systems.specs.declared.row.Var.TheVariants.{Cell, Exit, Phi, Aux}
use Rattle.affine_systems.specs.declared.row.Term.{Term}
use Rattle.affine_systems.specs.declared.row.Row.{Row}
use Rattle.affine_systems.specs.Terms.{has_no_terms}
use Rattle.call_translation.specs.transformer_algebra.Cells.{has}
use Rattle.affine_forms.specs.declared.affine.Affine.{Affine}
use Rattle.affine_forms.specs.Forms.{affine, sum_of}
use Rattle.affine_forms.specs.Comparisons.{var_form, same_row}

abbrev pub zero : Affine
zero = affine [] (pos 0)

-- how far a variable is from a form
abbrev pub offset : Var → Option Affine → Option Affine
offset v low = sum_of (Some (var_form v)) (negsuc 0) low

-- one form less another
abbrev pub less : Option Affine → Option Affine → Option Affine
less f g = sum_of f (negsuc 0) g

-- it is 0, whatever the variables are
abbrev pub is_zero : Option Affine → Bool
is_zero None = false
is_zero (Some f) = has_no_terms f.terms && int_eq f.constant (pos 0)

-- the row that says that two forms have one value, where there are both
abbrev pub equation : Option Affine → Option Affine → Option Row
equation None g = None
equation (Some f) None = None
equation (Some f) (Some g) = Some (same_row f g)

-- ---- forms that name none of some cells

abbrev pub is_among : List ℕ → Var → Bool
is_among cs (Cell n) = has cs n
is_among cs (Exit n) = false
is_among cs (Phi n) = false
is_among cs (Aux n) = false

abbrev pub lack : List ℕ → List Term → Bool
lack cs [] = true
lack cs (t ∷ ts) = not (is_among cs t.var) && lack cs ts

abbrev pub unless_among : List ℕ → Option Affine → Option Affine
unless_among cs None = None
unless_among cs (Some f) = if lack cs f.terms then Some f else None
