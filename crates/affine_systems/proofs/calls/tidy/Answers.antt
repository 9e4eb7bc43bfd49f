use Rattle.std.proofs.Common.{◌≡◌, ◌∙◌}
use Rattle.std.proofs.lemmas.Result.{IfOk-weaker}
use Rattle.affine_systems.specs.declared.row.System.{System}
use Rattle.affine_systems.specs.Rows.{system}
use Rattle.affine_systems.specs.Tidy.{tidy}
use Rattle.affine_systems.specs.Laws.{KeepsPoints, AddsNoPoint}
use Rattle.affine_systems.proofs.RenameSteps.{tidy_keeps, tidy_adds_none}
use Rattle.affine_systems.proofs.calls.tidy.Goals as goal

pub returns-clause-sound : goal.returns-clause-sound
returns-clause-sound c =
    let rows = c.in_ok-rows.rows.items in
    IfOk-weaker c.tidy_rows.result (λ (t : System). t ≡ tidy (system rows c.args.sys.now.weak)) (KeepsPoints c.args.sys.now)
    (λ t e. tidy_keeps c.args.sys.now rows t (c.in_ok-rows.ensures ∙ c.as_slice.ensures) e) c.tidy_rows.ensures.defined

pub returns-clause-no_new_points : goal.returns-clause-no_new_points
returns-clause-no_new_points c =
    let rows = c.in_ok-rows.rows.items in
    IfOk-weaker c.tidy_rows.result (λ (t : System). t ≡ tidy (system rows c.args.sys.now.weak)) (AddsNoPoint c.args.sys.now)
    (λ t e. tidy_adds_none c.args.sys.now rows t (c.in_ok-rows.ensures ∙ c.as_slice.ensures) e) c.tidy_rows.ensures.defined
