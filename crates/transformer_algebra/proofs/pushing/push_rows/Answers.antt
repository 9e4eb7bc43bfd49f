use Rattle.std.proofs.Common.{◌≡◌, ◌∙◌, ◌++◌, List, ap, sym, subst}
use Rattle.std.proofs.lemmas.Result.{IfOk-weaker}
use Rattle.affine_systems.specs.declared.row.Row.{Row}
use Rattle.affine_systems.specs.declared.row.System.{System}
use Rattle.affine_systems.specs.Rows.{system, AllRows}
use Rattle.affine_systems.specs.Given.{IsGiven}
use Rattle.affine_systems.specs.Tidy.{tidy}
use Rattle.affine_systems.specs.Laws.{KeepsCommonPoints, AddsNoCommonPoint}
use Rattle.affine_systems.proofs.RenameSteps.{common_keeps, common_adds_none, fits_given, given_append}
use Rattle.transformer_algebra.proofs.pushing.push_rows.Goals as goal

pub tidy_rows-requires : goal.tidy_rows-requires
tidy_rows-requires c =
    let e : c.append.new.self.items ≡ c.args.sys.now.rows ++ c.args.more.items
    = (c.in_ok-append.ensures.items ∙ ap (λ (rs : List Row). rs ++ c.args.more.items) (c.in_ok-rows.ensures ∙ c.as_slice.ensures)) in
    record { fits = subst (λ (rs : List Row). AllRows IsGiven rs) (sym e) (given_append c.args.sys.now.rows c.args.more.items (fits_given c.args.sys.now.rows c.requires.fits) c.requires.rows) }

pub returns-clause-sound : goal.returns-clause-sound
returns-clause-sound c =
    let e : c.append.new.self.items ≡ c.args.sys.now.rows ++ c.args.more.items
    = (c.in_ok-append.ensures.items ∙ ap (λ (rs : List Row). rs ++ c.args.more.items) (c.in_ok-rows.ensures ∙ c.as_slice.ensures)) in
    IfOk-weaker c.tidy_rows.result (λ (t : System). t ≡ tidy (system c.append.new.self.items c.args.sys.now.weak)) (KeepsCommonPoints c.args.sys.now.rows c.args.more.items)
    (λ t h. common_keeps c.args.sys.now.rows c.args.more.items c.append.new.self.items c.args.sys.now.weak t e h) c.tidy_rows.ensures.defined

pub returns-clause-no_new_points : goal.returns-clause-no_new_points
returns-clause-no_new_points c =
    let e : c.append.new.self.items ≡ c.args.sys.now.rows ++ c.args.more.items
    = (c.in_ok-append.ensures.items ∙ ap (λ (rs : List Row). rs ++ c.args.more.items) (c.in_ok-rows.ensures ∙ c.as_slice.ensures)) in
    IfOk-weaker c.tidy_rows.result (λ (t : System). t ≡ tidy (system c.append.new.self.items c.args.sys.now.weak)) (AddsNoCommonPoint c.args.sys.now.rows c.args.more.items)
    (λ t h. common_adds_none c.args.sys.now.rows c.args.more.items c.append.new.self.items c.args.sys.now.weak t e h) c.tidy_rows.ensures.defined
