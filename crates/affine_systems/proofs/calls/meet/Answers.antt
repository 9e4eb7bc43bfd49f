use Rattle.std.proofs.Common.{◌≡◌, ◌∙◌, ◌++◌, List, ap₂, sym, subst}
use Rattle.std.proofs.lemmas.Result.{IfOk-weaker}
use Rattle.affine_systems.specs.declared.row.Row.{Row}
use Rattle.affine_systems.specs.declared.row.System.{System}
use Rattle.affine_systems.specs.Rows.{system, AllRows}
use Rattle.affine_systems.specs.Given.{IsGiven}
use Rattle.affine_systems.specs.Tidy.{tidy}
use Rattle.affine_systems.specs.Laws.{KeepsCommonPoints, AddsNoCommonPoint}
use Rattle.affine_systems.proofs.RenameSteps.{common_keeps, common_adds_none, fits_given, given_append}
use Rattle.affine_systems.proofs.calls.meet.Goals as goal

pub tidy_rows-requires : goal.tidy_rows-requires
tidy_rows-requires c =
    let e : c.append.new.self.items ≡ c.args.one.now.rows ++ c.args.other.now.rows
    = c.in_ok-append.ensures.items ∙ ap₂ (λ (rs ss : List Row). rs ++ ss) (c.in_ok-rows.ensures ∙ c.as_slice.ensures) (c.in_ok-more.ensures ∙ c.as_slice-2.ensures) in
    record { fits = subst (λ (rs : List Row). AllRows IsGiven rs) (sym e) (given_append c.args.one.now.rows c.args.other.now.rows (fits_given c.args.one.now.rows c.requires.fits) (fits_given c.args.other.now.rows c.requires.other_fits)) }

pub returns-clause-sound : goal.returns-clause-sound
returns-clause-sound c =
    let e : c.append.new.self.items ≡ c.args.one.now.rows ++ c.args.other.now.rows
    = c.in_ok-append.ensures.items ∙ ap₂ (λ (rs ss : List Row). rs ++ ss) (c.in_ok-rows.ensures ∙ c.as_slice.ensures) (c.in_ok-more.ensures ∙ c.as_slice-2.ensures) in
    IfOk-weaker c.tidy_rows.result (λ (t : System). t ≡ tidy (system c.append.new.self.items c.if-one.tidy_rows)) (KeepsCommonPoints c.args.one.now.rows c.args.other.now.rows)
    (λ t h. common_keeps c.args.one.now.rows c.args.other.now.rows c.append.new.self.items c.if-one.tidy_rows t e h) c.tidy_rows.ensures.defined

pub returns-clause-no_new_points : goal.returns-clause-no_new_points
returns-clause-no_new_points c =
    let e : c.append.new.self.items ≡ c.args.one.now.rows ++ c.args.other.now.rows
    = c.in_ok-append.ensures.items ∙ ap₂ (λ (rs ss : List Row). rs ++ ss) (c.in_ok-rows.ensures ∙ c.as_slice.ensures) (c.in_ok-more.ensures ∙ c.as_slice-2.ensures) in
    IfOk-weaker c.tidy_rows.result (λ (t : System). t ≡ tidy (system c.append.new.self.items c.if-one.tidy_rows)) (AddsNoCommonPoint c.args.one.now.rows c.args.other.now.rows)
    (λ t h. common_adds_none c.args.one.now.rows c.args.other.now.rows c.append.new.self.items c.if-one.tidy_rows t e h) c.tidy_rows.ensures.defined
