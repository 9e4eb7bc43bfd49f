use Rattle.std.proofs.Common.{◌≡◌, ◌∙◌, false, sym, ap, ap₂, subst}
use Rattle.affine_systems.specs.Given.{ItemsFit}
use Rattle.affine_systems.specs.Items.{rows_of, any_false}
use Rattle.work_area.specs.Columns.{InColumns}
use Rattle.hull_projection.specs.Variables.{row_vars}
use Rattle.hull_projection.specs.Refute.{left, eliminate_all}
use Rattle.hull_projection.proofs.FitLaws.{originals_fit}
use Rattle.work_area.specs.Tables.{items_of, MadeBelow}
use Rattle.work_area.specs.Refuting.{vars_of}
use Rattle.work_area.proofs.NoteLaws.{vars_noted}
use Rattle.work_area.proofs.TableSteps.{front_is, ready_zero, keeps_both}
use Rattle.work_area.proofs.RefuteBounds.{originals_below}
use Rattle.work_area.proofs.RefuteSteps.{originals_columns}
use Rattle.work_area.proofs.refuting.refuted_rows.Goals as goal

pub note_tables-requires-clause-places : goal.note_tables-requires-clause-places
note_tables-requires-clause-places c = ready_zero c.args.columns c.args.tables.now c.requires.ready

pub mark_rows-requires : goal.mark_rows-requires
mark_rows-requires c = ready_zero c.args.columns c.args.tables.now c.requires.ready

pub eliminate_each-requires-clause-sound : goal.eliminate_each-requires-clause-sound
eliminate_each-requires-clause-sound c =
    let n = c.args.columns in
    record {
      width = n;
      ready = c.mark_rows.ensures.ready.kept n c.requires.ready;
      held = subst (InColumns n) (sym c.mark_rows.ensures.items) (originals_columns n (items_of c.args.tables.now) c.requires.held);
    }

pub eliminate_each-requires-clause-fits : goal.eliminate_each-requires-clause-fits
eliminate_each-requires-clause-fits c = subst (ItemsFit false) (sym c.mark_rows.ensures.items) (originals_fit false (items_of c.args.tables.now) c.requires.fits)

pub eliminate_each-requires-clause-below : goal.eliminate_each-requires-clause-below
eliminate_each-requires-clause-below c = subst (MadeBelow 512) (sym c.mark_rows.ensures.items) (originals_below (items_of c.args.tables.now) c.requires.fits.0)

pub returns-clause-defined : goal.returns-clause-defined
returns-clause-defined c =
    let t = c.args.tables.now in
    let is = items_of t in
    let v : vars_of c.as_slice.result.now ≡ row_vars (rows_of is)
    = ap vars_of (c.as_slice.ensures.value ∙ c.note_tables.ensures.sum) ∙ vars_noted (rows_of is) in
    c.any_false.ensures
    ∙ (ap any_false (front_is c.eliminate_each.new.tables c.as_slice-rows.result.now c.as_slice-rows.ensures.value ∙ c.eliminate_each.ensures.items)
    ∙ ap₂ (λ js vs. any_false (eliminate_all false (left js false 0) vs).items) c.mark_rows.ensures.items v)

pub returns-clause-ready : goal.returns-clause-ready
returns-clause-ready c = keeps_both c.args.tables.now c.mark_rows.new.tables c.eliminate_each.new.tables c.mark_rows.ensures.ready c.eliminate_each.ensures.ready
