use Rattle.std.proofs.Common.{◌∙◌, List, ap, sym, subst}
use Rattle.affine_systems.specs.declared.row.Row.{Row}
use Rattle.affine_systems.specs.Rows.{AllRows}
use Rattle.affine_systems.specs.Given.{IsSmallRow}
use Rattle.affine_systems.proofs.RenameSteps.{fits_small}
use Rattle.hull_projection.specs.Closure.{iteration_rows}
use Rattle.hull_projection.proofs.GivenLaws.{turns_given}
use Rattle.hull_projection.proofs.closing.some_iterations.Goals as goal

pub iteration_rows-requires-clause-small : goal.iteration_rows-requires-clause-small
iteration_rows-requires-clause-small c = subst (λ (rs : List Row). AllRows IsSmallRow rs) (sym c.as_slice.ensures) (fits_small c.args.changes.now.rows c.requires.fits)

pub tidy-requires : goal.tidy-requires
tidy-requires c =
    let e = c.from_vec.ensures ∙ (c.in_ok-iteration_rows.ensures ∙ ap (iteration_rows c.args.first c.args.cells.now) c.as_slice.ensures) in
    record { fits = turns_given c.args.first c.args.cells.now c.args.changes.now.rows c.from_vec.result c.requires.cells (fits_small c.args.changes.now.rows c.requires.fits) e }
