-- A system of the caller as one of the callee.
use Rattle.std.specs.Prelude.{ℕ, Bool, List, if◌then◌else◌}
use Rattle.affine_systems.specs.declared.row.Row.{Row}
use Rattle.affine_systems.specs.declared.row.System.{System}
use Rattle.hull_projection.specs.Variables.{row_vars}
use Rattle.hull_projection.specs.Project.{project}
use Rattle.call_translation.specs.transformer_algebra.Renaming.{rename_all, push_rows}
use Rattle.affine_forms.specs.Conditions.{no_rows}
use Rattle.call_equations.specs.Sides.{SidesTree}
use Rattle.region_translation.specs.Pieces.{names_of, are_own}
use Rattle.region_translation.specs.Values.{value_rows, going_away}

-- the caller's variables get names of their own; subscripts of a variable that is the same in both stay
abbrev pub with_names : Bool → ℕ → System → System
with_names moved q s = rename_all (names_of moved q (row_vars s.rows)) s

-- with these equations, and what scalar dummies are
abbrev pub joined : SidesTree → ℕ → List Row → System → System
joined c q rs s = push_rows (push_rows s rs) (value_rows c q)

abbrev pub without_caller : SidesTree → System → System
without_caller c s = (project s (going_away c (row_vars s.rows))).system

-- of a variable with q subscripts in the caller; these rows join its subscripts and the callee's. What names other variables says nothing; no analysis
-- makes such a system
abbrev pub piece_in_callee : SidesTree → Bool → ℕ → List Row → System → System
piece_in_callee c moved q rs s = if are_own moved q (row_vars s.rows) then without_caller c (joined c q rs (with_names moved q s)) else no_rows
