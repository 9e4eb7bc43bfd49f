use Rattle.std.proofs.Common.{◌≡◌, ◌∙◌, List, map, ap, sym, subst}
use Rattle.std.proofs.lemmas.Result.{IfOk-weaker}
use Rattle.affine_systems.specs.declared.row.Row.{Row}
use Rattle.affine_systems.specs.declared.row.System.{System}
use Rattle.affine_systems.specs.Rows.{system, AllRows, renamed_row}
use Rattle.affine_systems.specs.Given.{IsSmallRow}
use Rattle.affine_systems.specs.Tidy.{tidy}
use Rattle.affine_systems.proofs.RenameSteps.{fits_small}
use Rattle.transformer_algebra.specs.Renaming.{renamed_by, rename_all}
use Rattle.transformer_algebra.specs.RenamingLaws.{RenamesPoints}
use Rattle.transformer_algebra.proofs.KeepLaws.{renames_points}
use Rattle.transformer_algebra.proofs.renaming.rename_all.Goals as goal

pub renamed_rows-requires : goal.renamed_rows-requires
renamed_rows-requires c = subst (λ (rs : List Row). AllRows IsSmallRow rs) (sym c.as_slice.ensures) (fits_small c.args.sys.now.rows c.requires.fits)

pub returns-clause-sound : goal.returns-clause-sound
returns-clause-sound c =
    let e : c.in_ok-rows.rows.items ≡ map (renamed_row (renamed_by c.args.names.now)) c.args.sys.now.rows
    = (c.in_ok-rows.ensures.defined ∙ ap (map (renamed_row (renamed_by c.args.names.now))) c.as_slice.ensures) in
    IfOk-weaker c.tidy_rows.result (λ (t : System). t ≡ tidy (system c.in_ok-rows.rows.items c.args.sys.now.weak)) (RenamesPoints c.args.names.now c.args.sys.now)
    (λ t h. renames_points c.args.names.now c.args.sys.now t (h ∙ ap (λ (rs : List Row). tidy (system rs c.args.sys.now.weak)) e)) c.tidy_rows.ensures.defined
