use Rattle.std.proofs.Common.{◌≡◌, ◌∙◌, sym, ap, subst, take}
use Rattle.std.specs.Prelude.{map}
use Rattle.affine_systems.specs.Rows.{system}
use Rattle.affine_systems.specs.Items.{rows_of}
use Rattle.affine_systems.specs.Given.{Fits}
use Rattle.work_area.specs.Slots.{row_in}
use Rattle.work_area.specs.Tables.{items_of}
use Rattle.work_area.proofs.LoadSteps.{rows_in_front}
use Rattle.work_area.proofs.work.Work.system.Goals as goal

pub returns-clause-defined : goal.returns-clause-defined
returns-clause-defined c =
    let e : c.in_ok-row_list.field-0 ≡ rows_of (items_of c.self.inside.tables)
    = c.in_ok-row_list.ensures ∙ (ap (λ ss. map row_in (take c.self.inside.tables.len ss)) c.as_slice-rows.ensures.value ∙ rows_in_front c.self.inside.tables.rows.items c.self.inside.tables.len) in
    ap (λ rs. system rs c.self.inside.weak) e ∙ ap (λ a. a.system) c.self.view_is

pub returns-clause-fits : goal.returns-clause-fits
returns-clause-fits c =
    let e : c.in_ok-row_list.field-0 ≡ rows_of (items_of c.self.inside.tables)
    = c.in_ok-row_list.ensures ∙ (ap (λ ss. map row_in (take c.self.inside.tables.len ss)) c.as_slice-rows.ensures.value ∙ rows_in_front c.self.inside.tables.rows.items c.self.inside.tables.len) in
    subst Fits (ap (λ rs. system rs c.self.inside.weak) (sym e)) c.self.invariant.fits
