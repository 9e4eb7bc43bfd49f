use Rattle.std.proofs.Common.{◌≡◌, ◌∙◌, Bool, true, List, ap, sym, subst}
use Rattle.std.proofs.lemmas.Result.{IfOk-weaker}
use Rattle.affine_systems.specs.declared.row.Row.{Row}
use Rattle.affine_systems.specs.Rows.{AllRows}
use Rattle.affine_systems.specs.Given.{IsGiven}
use Rattle.affine_systems.proofs.RenameSteps.{fits_given, normal_small_row}
use Rattle.hull_projection.specs.Refute.{entails}
use Rattle.hull_projection.specs.Laws.{HoldsThroughout}
use Rattle.hull_projection.proofs.RefuteLaws.{entailed_holds}
use Rattle.hull_projection.proofs.entailment.entails.Goals as goal

pub entails_row-requires-clause-each : goal.entails_row-requires-clause-each
entails_row-requires-clause-each c = subst (λ (rs : List Row). AllRows IsGiven rs) (sym c.as_slice.ensures) (fits_given c.args.sys.now.rows c.requires.fits)

pub entails_row-requires-clause-row : goal.entails_row-requires-clause-row
entails_row-requires-clause-row c = normal_small_row c.args.row.now c.requires.row

pub returns-clause-holds : goal.returns-clause-holds
returns-clause-holds c =
    IfOk-weaker c.entails_row.result (λ (b : Bool). b ≡ entails c.as_slice.result.now c.args.row.now) (λ (b : Bool). b ≡ true → HoldsThroughout c.args.sys.now.rows c.args.row.now)
    (λ b e t p h. entailed_holds p c.args.sys.now.rows c.args.row.now (sym (e ∙ ap (λ (rs : List Row). entails rs c.args.row.now) c.as_slice.ensures) ∙ t) h) c.entails_row.ensures
