use Rattle.std.proofs.Common.{◌∙◌, ◌++◌, List, ap, sym, subst}
use Rattle.affine_systems.specs.declared.row.Row.{Row}
use Rattle.affine_systems.specs.Rows.{AllRows}
use Rattle.affine_systems.specs.Given.{IsGiven}
use Rattle.affine_systems.proofs.RenameSteps.{fits_given, given_append}
use Rattle.hull_projection.specs.Closure.{step_rows}
use Rattle.hull_projection.proofs.GivenLaws.{steps_given}
use Rattle.hull_projection.proofs.closing.steps.Goals as goal

pub tidy-requires : goal.tidy-requires
tidy-requires c =
    let ss = step_rows c.args.first c.args.cells.now in
    let e = c.from_vec.ensures ∙ (c.in_ok-push_steps.ensures ∙ ap (λ (rs : List Row). rs ++ ss) (c.in_ok-rows.ensures ∙ c.as_slice.ensures)) in
    record { fits = subst (λ (rs : List Row). AllRows IsGiven rs) (sym e) (given_append c.args.body.now.rows ss (fits_given c.args.body.now.rows c.requires.fits) (steps_given c.args.first c.args.cells.now c.requires.cells.cells)) }
