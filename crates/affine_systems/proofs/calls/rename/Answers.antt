use Rattle.std.proofs.Common.{◌≡◌, ◌∙◌, List, map, ap, sym, subst}
use Rattle.std.proofs.lemmas.Result.{IfOk-weaker}
use Rattle.affine_systems.specs.declared.row.Row.{Row}
use Rattle.affine_systems.specs.declared.row.System.{System}
use Rattle.affine_systems.specs.Rows.{system, AllRows, renamed_row}
use Rattle.affine_systems.specs.Given.{IsGiven, IsSmallRow}
use Rattle.affine_systems.specs.Tidy.{tidy}
use Rattle.affine_systems.specs.Calls.{one_by}
use Rattle.affine_systems.specs.Laws.{RenamesPoints, RenamesNoPointMore}
use Rattle.affine_systems.proofs.RenameSteps.{rename_keeps, rename_adds_none, fits_small, renamed_given}
use Rattle.affine_systems.proofs.calls.rename.Goals as goal

pub renamed_rows-requires : goal.renamed_rows-requires
renamed_rows-requires c = subst (λ (rs : List Row). AllRows IsSmallRow rs) (sym c.as_slice.ensures) (fits_small c.args.sys.now.rows c.requires.fits)

pub tidy_rows-requires : goal.tidy_rows-requires
tidy_rows-requires c =
    let e = c.in_ok-rows.ensures ∙ ap (map (renamed_row (one_by c.args.from c.args.to))) c.as_slice.ensures in
    record { fits = subst (λ (rs : List Row). AllRows IsGiven rs) (sym e) (renamed_given c.args.from c.args.to c.args.sys.now.rows (fits_small c.args.sys.now.rows c.requires.fits)) }

pub returns-clause-sound : goal.returns-clause-sound
returns-clause-sound c =
    let rows = c.in_ok-rows.rows.items in
    IfOk-weaker c.tidy_rows.result (λ (t : System). t ≡ tidy (system rows c.args.sys.now.weak)) (RenamesPoints c.args.from c.args.to c.args.sys.now)
    (λ t h. rename_keeps c.args.sys.now c.args.from c.args.to rows t (c.in_ok-rows.ensures ∙ ap (map (renamed_row (one_by c.args.from c.args.to))) c.as_slice.ensures) h) c.tidy_rows.ensures.defined

pub returns-clause-no_new_points : goal.returns-clause-no_new_points
returns-clause-no_new_points c =
    let rows = c.in_ok-rows.rows.items in
    IfOk-weaker c.tidy_rows.result (λ (t : System). t ≡ tidy (system rows c.args.sys.now.weak)) (RenamesNoPointMore c.args.from c.args.to c.args.sys.now)
    (λ t h. rename_adds_none c.args.sys.now c.args.from c.args.to rows t (c.in_ok-rows.ensures ∙ ap (map (renamed_row (one_by c.args.from c.args.to))) c.as_slice.ensures) h) c.tidy_rows.ensures.defined
