use Rattle.std.proofs.Common.{◌≡◌, ◌∙◌, List, ap, sym, subst}
use Rattle.affine_systems.specs.declared.row.Row.{Row}
use Rattle.affine_systems.specs.Rows.{system, AllRows}
use Rattle.affine_systems.specs.Points.{HoldsAll}
use Rattle.affine_systems.specs.Given.{IsSmallRow, Fits}
use Rattle.affine_systems.proofs.RenameSteps.{fits_small}
use Rattle.hull_projection.specs.Clean.{clean_rows}
use Rattle.hull_projection.proofs.CleanLaws.{clean_same, clean_fits}
use Rattle.hull_projection.proofs.cleaning.clean.Goals as goal

pub clean_rows-requires : goal.clean_rows-requires
clean_rows-requires c =
    subst (λ (rs : List Row). AllRows IsSmallRow rs) (sym (c.from_vec.ensures ∙ (c.in_ok-rows.ensures ∙ c.as_slice.ensures))) (fits_small c.args.sys.now.rows c.requires.fits)

pub returns-clause-fits : goal.returns-clause-fits
returns-clause-fits c =
    let r : c.in_ok-clean_rows.field-0 ≡ clean_rows c.args.sys.now.rows = c.in_ok-clean_rows.ensures ∙ ap clean_rows (c.from_vec.ensures ∙ (c.in_ok-rows.ensures ∙ c.as_slice.ensures)) in
    subst (λ (rs : List Row). Fits (system rs c.args.sys.now.weak)) (sym r) (clean_fits c.args.sys.now c.requires.fits)

pub returns-clause-sound : goal.returns-clause-sound
returns-clause-sound c p h =
    let r : c.in_ok-clean_rows.field-0 ≡ clean_rows c.args.sys.now.rows = c.in_ok-clean_rows.ensures ∙ ap clean_rows (c.from_vec.ensures ∙ (c.in_ok-rows.ensures ∙ c.as_slice.ensures)) in
    subst (HoldsAll p) (sym r) ((clean_same p c.args.sys.now).0 h)

pub returns-clause-no_new_points : goal.returns-clause-no_new_points
returns-clause-no_new_points c p h =
    let r : c.in_ok-clean_rows.field-0 ≡ clean_rows c.args.sys.now.rows = c.in_ok-clean_rows.ensures ∙ ap clean_rows (c.from_vec.ensures ∙ (c.in_ok-rows.ensures ∙ c.as_slice.ensures)) in
    (clean_same p c.args.sys.now).1 (subst (HoldsAll p) r h)
