use Rattle.std.proofs.Common.{◌≡◌, ◌∙◌, ◌^◌, ◌||◌, Bool, false, List, [], sym, ap, ap₂, subst, arith}
use Rattle.affine_systems.specs.declared.row.Var.{Var}
use Rattle.affine_systems.specs.declared.row.Term.{Term}
use Rattle.affine_systems.specs.declared.row.System.{System}
use Rattle.affine_systems.specs.Rows.{system}
use Rattle.affine_systems.specs.Places.{has_var}
use Rattle.affine_systems.specs.Given.{Fits, ItemsFit}
use Rattle.affine_systems.specs.Items.{items_from, rows_of}
use Rattle.affine_systems.specs.Eliminate.{eliminate, eliminate_item}
use Rattle.affine_systems.proofs.FitLaws.{items_fit, eliminated_fits, system_fits}
use Rattle.work_area.specs.Columns.{InColumns, noted_rows}
use Rattle.work_area.specs.Tables.{items_of, MadeBelow}
use Rattle.work_area.specs.declared.work.Work.TheInside.{Inside}
use Rattle.work_area.specs.Area.{area}
use Rattle.work_area.specs.Inside.{area_in, IsWork}
use Rattle.work_area.proofs.NoteLaws.{eliminate_absent}
use Rattle.work_area.proofs.LoadSteps.{from_columns, from_below}
use Rattle.work_area.proofs.TableSteps.{ready_zero, eliminated_columns}
use Rattle.work_area.proofs.work.eliminate_in.Goals as goal

pub start-requires : goal.start-requires
start-requires c = ready_zero c.work.inside.columns c.work.inside.tables c.work.invariant.ready

pub eliminate_rows-outcome-requires-clause-sound : goal.eliminate_rows-outcome-requires-clause-sound
eliminate_rows-outcome-requires-clause-sound c =
    let n = c.work.inside.columns in
    record {
      width = n;
      ready = c.start.ensures.ready.kept n c.work.invariant.ready;
      held = subst (InColumns n) (sym c.start.ensures.items) (from_columns n 0 (items_of c.work.inside.tables) c.work.invariant.held);
    }

pub eliminate_rows-outcome-requires-clause-fits : goal.eliminate_rows-outcome-requires-clause-fits
eliminate_rows-outcome-requires-clause-fits c = subst (ItemsFit false) (sym c.start.ensures.items) (items_fit 0 (rows_of (items_of c.work.inside.tables)) c.work.invariant.fits)

pub eliminate_rows-outcome-requires-clause-below : goal.eliminate_rows-outcome-requires-clause-below
eliminate_rows-outcome-requires-clause-below c =
    let rs = rows_of (items_of c.work.inside.tables) in
    subst (MadeBelow (2 ^ 126)) (sym c.start.ensures.items) (from_below (2 ^ 126) 0 rs (omega (arith, c.work.invariant.fits.0)))

pub note_tables-requires-clause-places : goal.note_tables-requires-clause-places
note_tables-requires-clause-places c =
    let n = c.work.inside.columns in
    ready_zero n c.eliminate_rows-outcome.new.tables (c.eliminate_rows-outcome.ensures.ready.kept n (c.start.ensures.ready.kept n c.work.invariant.ready))

pub note_tables-requires-clause-held : goal.note_tables-requires-clause-held
note_tables-requires-clause-held c =
    let n = c.work.inside.columns in
    let is = items_of c.work.inside.tables in
    let rs = rows_of is in
    let v = c.args.var in
    let e = c.eliminate_rows-outcome.ensures.done.items ∙ ap (λ js. (eliminate_item false v js).items) c.start.ensures.items in
    subst (InColumns n) (sym e) (eliminated_columns n v (items_from 0 rs) (items_fit 0 rs c.work.invariant.fits) (from_columns n 0 is c.work.invariant.held))

pub invariant_of-work : goal.invariant_of-work
invariant_of-work c =
    let n = c.work.inside.columns in
    let is = items_of c.work.inside.tables in
    let rs = rows_of is in
    let v = c.args.var in
    let w = c.either-work-inside.result in
    let e = c.eliminate_rows-outcome.ensures.done.items ∙ ap (λ js. (eliminate_item false v js).items) c.start.ensures.items in
    let g = items_fit 0 rs c.work.invariant.fits in
    record {
      ready = c.eliminate_rows-outcome.ensures.ready.kept n (c.start.ensures.ready.kept n c.work.invariant.ready);
      sum = omega (arith, c.work.invariant.sum, c.note_tables.ensures.room);
      noted = c.note_tables.ensures.sum;
      held = subst (InColumns n) (sym e) (eliminated_columns n v (items_from 0 rs) g (from_columns n 0 is c.work.invariant.held));
      fits = subst (λ js. Fits (system (rows_of js) w)) (sym e) (system_fits (eliminate_item false v (items_from 0 rs)).items w (eliminated_fits false v (items_from 0 rs) g));
    }

pub returns-clause-area : goal.returns-clause-area
returns-clause-area c =
    let v = c.args.var in
    let w = c.work.inside.weak in
    let d = c.eliminate_rows-outcome.ensures.done in
    let s = c.start.ensures.items in
    ap₂ (λ js l. area (system (rows_of js) l) c.work.inside.columns) (d.items ∙ ap (λ js. (eliminate_item false v js).items) s) (c.either-work-inside.ensures ∙ ap (λ l. w || l) (d.lost ∙ ap (λ js. (eliminate_item false v js).lost) s))
    ∙ ap (λ a. area (eliminate a.system v).system a.columns) c.work.view_is

pub returns-clause-exact : goal.returns-clause-exact
returns-clause-exact c =
    let v = c.args.var in
    c.eliminate_rows-outcome.ensures.done.exact ∙ (ap (λ js. (eliminate_item false v js).exact) c.start.ensures.items ∙ ap (λ a. (eliminate a.system v).exact) c.work.view_is)

not_noted : (w : Inside) (b : Bool) (ts : List Term) → IsWork w → (v : Var) → ts ≡ w.sum.items → b ≡ has_var v ts → b ≡ false → has_var v (noted_rows [] (area_in w).system.rows) ≡ false
not_noted w b ts h v s e f = ap (has_var v) (sym (s ∙ h.noted)) ∙ (sym e ∙ f)

pub returns-then-not-is_noted-clause-area : goal.returns-then-not-is_noted-clause-area
returns-then-not-is_noted-clause-area c =
    let v = c.args.var in
    let e = eliminate_absent (area_in c.work.inside).system v (not_noted c.work.inside c.is_noted.result c.as_slice.result.now c.work.invariant v c.as_slice.ensures.value c.is_noted.ensures c.if-not-is_noted.true) in
    sym c.work.view_is ∙ (ap (λ (s : System). area s c.work.inside.columns) (sym e.0) ∙ ap (λ a. area (eliminate a.system v).system a.columns) c.work.view_is)

pub returns-then-not-is_noted-clause-exact : goal.returns-then-not-is_noted-clause-exact
returns-then-not-is_noted-clause-exact c =
    let v = c.args.var in
    let e = eliminate_absent (area_in c.work.inside).system v (not_noted c.work.inside c.is_noted.result c.as_slice.result.now c.work.invariant v c.as_slice.ensures.value c.is_noted.ensures c.if-not-is_noted.true) in
    sym e.1 ∙ ap (λ a. (eliminate a.system v).exact) c.work.view_is
