use Rattle.std.proofs.Common.{◌≡◌, ◌∙◌, Bool, true, List, ap, sym, subst}
use Rattle.std.proofs.lemmas.Result.{IfOk-weaker}
use Rattle.affine_systems.specs.declared.row.Row.{Row}
use Rattle.affine_systems.specs.Rows.{AllRows}
use Rattle.affine_systems.specs.Given.{IsGiven}
use Rattle.affine_systems.proofs.RenameSteps.{fits_given}
use Rattle.hull_projection.specs.Refute.{refuted}
use Rattle.hull_projection.specs.Laws.{HasNoPoint}
use Rattle.hull_projection.proofs.RefuteLaws.{refuted_none}
use Rattle.hull_projection.proofs.refutation.refuted.Goals as goal

pub refuted_rows-requires : goal.refuted_rows-requires
refuted_rows-requires c = subst (λ (rs : List Row). AllRows IsGiven rs) (sym (c.in_ok-rows.ensures ∙ c.as_slice.ensures)) (fits_given c.args.sys.now.rows c.requires.fits)

pub returns-clause-none : goal.returns-clause-none
returns-clause-none c =
    IfOk-weaker c.refuted_rows.result (λ (b : Bool). b ≡ refuted c.in_ok-rows.rows.items) (λ (b : Bool). b ≡ true → HasNoPoint c.args.sys.now.rows)
    (λ b e t p h. refuted_none p c.args.sys.now.rows (sym (e ∙ ap refuted (c.in_ok-rows.ensures ∙ c.as_slice.ensures)) ∙ t) h) c.refuted_rows.ensures
