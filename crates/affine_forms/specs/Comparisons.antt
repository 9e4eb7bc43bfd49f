-- Rows that compare two forms, and the systems of one such row.
use Rattle.std.specs.Prelude.{Bool, true, false, List, [], ◌∷◌, pos, negsuc, ◌-ℤ◌}
use Rattle.affine_systems.specs.declared.row.Var.{Var}
use Rattle.affine_systems.specs.declared.row.Term.{Term}
use Rattle.affine_systems.specs.declared.row.Row.{Row}
use Rattle.affine_systems.specs.declared.row.System.{System}
use Rattle.affine_systems.specs.Terms.{term}
use Rattle.affine_systems.specs.Rows.{row, system, combined_terms}
use Rattle.affine_systems.specs.Tidy.{tidy}
use Rattle.affine_forms.specs.declared.affine.Affine.{Affine}
use Rattle.affine_forms.specs.Forms.{affine}

-- the form of a variable
abbrev pub var_form : Var → Affine
var_form v = affine (term v (pos 1) ∷ []) (pos 0)

-- the terms of f - g
abbrev pub difference : Affine → Affine → List Term
difference f g = combined_terms (pos 1) f.terms (negsuc 0) g.terms

-- f <= g
abbrev pub at_most_row : Affine → Affine → Row
at_most_row f g = row false (difference f g) (g.constant -ℤ f.constant)

-- f + 1 <= g
abbrev pub below_row : Affine → Affine → Row
below_row f g = row false (difference f g) ((g.constant -ℤ f.constant) -ℤ pos 1)

-- f == g
abbrev pub same_row : Affine → Affine → Row
same_row f g = row true (difference f g) (g.constant -ℤ f.constant)

abbrev pub one_row : Row → System
one_row r = tidy (system (r ∷ []) false)

abbrev pub at_most : Affine → Affine → System
at_most f g = one_row (at_most_row f g)

abbrev pub below : Affine → Affine → System
below f g = one_row (below_row f g)

abbrev pub same : Affine → Affine → System
same f g = one_row (same_row f g)
