-- Which of two iterations comes first, by their indices (ANSI X3.9-1978 §11.10.3).
use Rattle.std.specs.Prelude.{List, [], ◌∷◌, Option, Some, None, if◌then◌else◌, nat_lt, ℤ, pos, negsuc, unsigned_abs}
use Rattle.std.specs.Ordering.{int_eq}
use Rattle.affine_systems.specs.declared.row.Var.{Var}
use Rattle.affine_systems.specs.declared.row.Row.{Row}
use Rattle.affine_systems.specs.Terms.{term}
use Rattle.affine_forms.specs.declared.affine.Affine.{Affine}
use Rattle.affine_forms.specs.Forms.{affine}
use Rattle.affine_forms.specs.Comparisons.{var_form, at_most_row, below_row, same_row}

abbrev pub one : Affine
one = affine [] (pos 1)

-- i + s t
abbrev pub steps_from : Var → ℤ → Var → Affine
steps_from i s t = affine (term i (pos 1) ∷ (term t s ∷ [])) (pos 0)

-- j == i + s t, 1 <= t
abbrev pub step_rows : ℤ → Var → Var → Var → List Row
step_rows s i j t = same_row (var_form j) (steps_from i s t) ∷ (at_most_row one (var_form t) ∷ [])

-- the index i is that of the earlier iteration, j that of the later one; there are t steps between them, unless a step is 1 or -1
abbrev pub rows_by : ℤ → Var → Var → Var → List Row
rows_by s i j t =
    if int_eq s (pos 1) then below_row (var_form i) (var_form j) ∷ []
    else if int_eq s (negsuc 0) then below_row (var_form j) (var_form i) ∷ []
    else if nat_lt 1 (unsigned_abs s) then step_rows s i j t
    else []

-- nothing is known of them where the step is no constant
abbrev pub order_rows : Option ℤ → Var → Var → Var → List Row
order_rows None i j t = []
order_rows (Some s) i j t = rows_by s i j t
