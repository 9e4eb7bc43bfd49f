use Rattle.std.proofs.Common.{◌∙◌, ◌*◌, ◌^◌, ◌||◌, false, sym, ap, ap₂, subst, arith}
use Rattle.affine_systems.specs.Rows.{system}
use Rattle.affine_systems.specs.Given.{Fits, ItemsGiven}
use Rattle.affine_systems.specs.Items.{items_from, rows_of}
use Rattle.affine_systems.specs.Tidy.{tidy, tidy_items}
use Rattle.affine_systems.proofs.FitLaws.{items_fit, tidied_fits, system_fits}
use Rattle.work_area.specs.Columns.{InColumns}
use Rattle.work_area.specs.Tables.{items_of, MadeBelow}
use Rattle.work_area.specs.Area.{area}
use Rattle.work_area.proofs.LoadSteps.{fit_given, from_columns, from_below}
use Rattle.work_area.proofs.TableSteps.{ready_zero, tidy_narrow}
use Rattle.work_area.proofs.work.tidy_in.Goals as goal

pub start-requires : goal.start-requires
start-requires c = ready_zero c.work.inside.columns c.work.inside.tables c.work.invariant.ready

pub tidy_tables-lost-requires-clause-sound : goal.tidy_tables-lost-requires-clause-sound
tidy_tables-lost-requires-clause-sound c =
    let n = c.work.inside.columns in
    record {
      width = n;
      ready = c.start.ensures.ready.kept n c.work.invariant.ready;
      held = subst (InColumns n) (sym c.start.ensures.items) (from_columns n 0 (items_of c.work.inside.tables) c.work.invariant.held);
    }

pub tidy_tables-lost-requires-clause-given : goal.tidy_tables-lost-requires-clause-given
tidy_tables-lost-requires-clause-given c =
    let rs = rows_of (items_of c.work.inside.tables) in
    subst ItemsGiven (sym c.start.ensures.items) (fit_given (items_from 0 rs) (items_fit 0 rs c.work.invariant.fits))

pub tidy_tables-lost-requires-clause-below : goal.tidy_tables-lost-requires-clause-below
tidy_tables-lost-requires-clause-below c =
    let rs = rows_of (items_of c.work.inside.tables) in
    subst (MadeBelow (3 * 2 ^ 125)) (sym c.start.ensures.items) (from_below (3 * 2 ^ 125) 0 rs (omega (arith, c.work.invariant.fits.0)))

pub note_tables-requires-clause-places : goal.note_tables-requires-clause-places
note_tables-requires-clause-places c =
    let n = c.work.inside.columns in
    ready_zero n c.tidy_tables-lost.new.tables (c.tidy_tables-lost.ensures.ready.kept n (c.start.ensures.ready.kept n c.work.invariant.ready))

pub note_tables-requires-clause-held : goal.note_tables-requires-clause-held
note_tables-requires-clause-held c =
    let n = c.work.inside.columns in
    let is = items_of c.work.inside.tables in
    let rs = rows_of is in
    let e = ap (λ t. t.items) (c.tidy_tables-lost.ensures.defined ∙ ap (tidy_items false) c.start.ensures.items) in
    subst (InColumns n) (sym e) (tidy_narrow n (items_from 0 rs) (fit_given (items_from 0 rs) (items_fit 0 rs c.work.invariant.fits)) (from_columns n 0 is c.work.invariant.held)).held

pub invariant_of-work : goal.invariant_of-work
invariant_of-work c =
    let n = c.work.inside.columns in
    let is = items_of c.work.inside.tables in
    let rs = rows_of is in
    let g = fit_given (items_from 0 rs) (items_fit 0 rs c.work.invariant.fits) in
    let k = from_columns n 0 is c.work.invariant.held in
    let e = ap (λ t. t.items) (c.tidy_tables-lost.ensures.defined ∙ ap (tidy_items false) c.start.ensures.items) in
    record {
      ready = c.tidy_tables-lost.ensures.ready.kept n (c.start.ensures.ready.kept n c.work.invariant.ready);
      sum = omega (arith, c.work.invariant.sum, c.note_tables.ensures.room);
      noted = c.note_tables.ensures.sum;
      held = subst (InColumns n) (sym e) (tidy_narrow n (items_from 0 rs) g k).held;
      fits = subst (λ js. Fits (system (rows_of js) c.either-work-inside.result)) (sym e) (system_fits (tidy_items false (items_from 0 rs)).items c.either-work-inside.result (tidied_fits false (items_from 0 rs) g));
    }

pub returns : goal.returns
returns c =
    let rs = rows_of (items_of c.work.inside.tables) in
    let d = c.tidy_tables-lost.ensures.defined ∙ ap (tidy_items false) c.start.ensures.items in
    let w = c.work.inside.weak in
    ap₂ (λ js l. area (system (rows_of js) l) c.work.inside.columns) (ap (λ t. t.items) d) (c.either-work-inside.ensures ∙ ap (λ l. w || l) (ap (λ t. t.lost) d))
    ∙ ap (λ a. area (tidy a.system) a.columns) c.work.view_is
