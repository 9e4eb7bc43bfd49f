use Rattle.std.proofs.Common.{◌≡◌, ◌∙◌, ◌*◌, ◌^◌, false, List, [], ◌∷◌, take, sym, ap, subst, arith, refl, inr}
use Rattle.affine_systems.specs.declared.items.Item.{Item}
use Rattle.affine_systems.specs.Rows.{system}
use Rattle.affine_systems.specs.Given.{Fits, ItemsFit, ItemsGiven}
use Rattle.affine_systems.specs.Items.{items_from, rows_of}
use Rattle.affine_systems.specs.Tidy.{tidy_items}
use Rattle.affine_systems.proofs.FitLaws.{items_fit, tidied_fits}
use Rattle.work_area.specs.Slots.{items_in}
use Rattle.work_area.specs.Columns.{InColumns, noted_rows}
use Rattle.hull_projection.specs.Refute.{refuted, refuted_items}
use Rattle.hull_projection.proofs.RefuteLaws.{refuted_none}
use Rattle.work_area.specs.Tables.{items_of, MadeBelow}
use Rattle.work_area.proofs.LoadSteps.{fit_given, from_columns, from_below}
use Rattle.work_area.proofs.TableSteps.{ready_zero, tidy_narrow}
use Rattle.work_area.proofs.work.refuted_in.Goals as goal

pub start-requires : goal.start-requires
start-requires c = ready_zero c.work.inside.columns c.work.inside.tables c.work.invariant.ready

pub tidy_tables-requires-clause-sound : goal.tidy_tables-requires-clause-sound
tidy_tables-requires-clause-sound c =
    let n = c.work.inside.columns in
    record {
      width = n;
      ready = c.start.ensures.ready.kept n c.work.invariant.ready;
      held = subst (InColumns n) (sym c.start.ensures.items) (from_columns n 0 (items_of c.work.inside.tables) c.work.invariant.held);
    }

pub tidy_tables-requires-clause-given : goal.tidy_tables-requires-clause-given
tidy_tables-requires-clause-given c =
    let rs = rows_of (items_of c.work.inside.tables) in
    subst ItemsGiven (sym c.start.ensures.items) (fit_given (items_from 0 rs) (items_fit 0 rs c.work.invariant.fits))

pub tidy_tables-requires-clause-below : goal.tidy_tables-requires-clause-below
tidy_tables-requires-clause-below c =
    let rs = rows_of (items_of c.work.inside.tables) in
    subst (MadeBelow (3 * 2 ^ 125)) (sym c.start.ensures.items) (from_below (3 * 2 ^ 125) 0 rs (omega (arith, c.work.invariant.fits.0)))

pub refuted_rows-none-requires-clause-ready : goal.refuted_rows-none-requires-clause-ready
refuted_rows-none-requires-clause-ready c =
    let n = c.work.inside.columns in
    c.tidy_tables.ensures.ready.kept n (c.start.ensures.ready.kept n c.work.invariant.ready)

pub refuted_rows-none-requires-clause-held : goal.refuted_rows-none-requires-clause-held
refuted_rows-none-requires-clause-held c =
    let n = c.work.inside.columns in
    let is = items_of c.work.inside.tables in
    let rs = rows_of is in
    let e = ap (λ t. t.items) (c.tidy_tables.ensures.defined ∙ ap (tidy_items false) c.start.ensures.items) in
    subst (InColumns n) (sym e) (tidy_narrow n (items_from 0 rs) (fit_given (items_from 0 rs) (items_fit 0 rs c.work.invariant.fits)) (from_columns n 0 is c.work.invariant.held)).held

pub refuted_rows-none-requires-clause-fits : goal.refuted_rows-none-requires-clause-fits
refuted_rows-none-requires-clause-fits c =
    let rs = rows_of (items_of c.work.inside.tables) in
    let e = ap (λ t. t.items) (c.tidy_tables.ensures.defined ∙ ap (tidy_items false) c.start.ensures.items) in
    subst (ItemsFit false) (sym e) (tidied_fits false (items_from 0 rs) (fit_given (items_from 0 rs) (items_fit 0 rs c.work.invariant.fits)))

no_items : (is : List Item) → take 0 is ≡ []
no_items [] = refl
no_items (i ∷ is) = refl

pub invariant_of-work : goal.invariant_of-work
invariant_of-work c =
    let n = c.work.inside.columns in
    let r = c.refuted_rows-none.ensures.ready.kept n (c.tidy_tables.ensures.ready.kept n (c.start.ensures.ready.kept n c.work.invariant.ready)) in
    let e = sym (no_items (items_in c.refuted_rows-none.new.tables.rows.items)) in
    record {
      ready = record { places = r.places; more = r.more; within = omega arith; rows = r.rows; others = r.others; scratch = r.scratch; pivot = r.pivot };
      sum = omega (arith, c.work.invariant.sum, c.refuted_rows-none.ensures.sum, c.clear.ensures.capacity);
      noted = c.clear.ensures.items ∙ ap (λ (js : List Item). noted_rows [] (rows_of js)) e;
      held = subst (InColumns n) e (record { columns = []; ascends = tt; few = omega arith; among = tt });
      fits = subst (λ js. Fits (system (rows_of js) false)) e (omega arith, inr tt);
    }

pub returns-clause-defined : goal.returns-clause-defined
returns-clause-defined c =
    c.refuted_rows-none.ensures.defined
    ∙ (ap refuted_items (ap (λ t. t.items) (c.tidy_tables.ensures.defined ∙ ap (tidy_items false) c.start.ensures.items)) ∙ ap (λ a. refuted a.system.rows) c.work.view_is)

pub returns-clause-columns : goal.returns-clause-columns
returns-clause-columns c = ap (λ a. a.columns) c.work.view_is

pub returns-clause-none : goal.returns-clause-none
returns-clause-none c t p h = refuted_none p c.args.work.now.system.rows (sym (returns-clause-defined c) ∙ t) h
