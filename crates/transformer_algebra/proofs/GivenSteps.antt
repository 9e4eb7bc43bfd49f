-- What is handed on may be handed on.
use Rattle.std.proofs.Common.{ℕ, List, [], ◌∷◌, ◌++◌, ◌<◌, ◌^◌, ℤ, pos, unsigned_abs, arith, refl}
use Rattle.affine_systems.specs.declared.row.Var.TheVariants.{Cell}
use Rattle.affine_systems.specs.declared.row.Row.{Row}
use Rattle.affine_systems.specs.Terms.{term}
use Rattle.affine_systems.specs.Rows.{AllRows}
use Rattle.affine_systems.specs.Given.{IsGiven}
use Rattle.affine_systems.proofs.RenameSteps.{given_append, given_append as rows_given}
use Rattle.hull_projection.specs.Closure.{AreCells}
use Rattle.affine_forms.specs.Forms.{affine, IsSmallForm}
use Rattle.transformer_algebra.specs.Halves.{cell_vars}

pub are_cells : (cs : List ℕ) → AreCells (cell_vars cs)
are_cells [] = tt
are_cells (c ∷ cs) = (tt, are_cells cs)

-- a list of one row
pub one_given : (r : Row) → IsGiven r → AllRows IsGiven (r ∷ [])
one_given r h = (h, tt)

pub ruleset given_rows = (one_given, rows_given)

pub step_small : (i : ℕ) (s : ℤ) → unsigned_abs s < 2 ^ 62 → IsSmallForm (affine (term (Cell i) (pos 1) ∷ []) s)
step_small i s h = (((refl, tt, tt), (omega arith, tt)), h)
