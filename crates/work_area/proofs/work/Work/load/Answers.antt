use Rattle.std.proofs.Common.{◌≡◌, ◌∙◌, ◌≤◌, [], List, length, take, sym, refl, ap, ap₂, subst, arith, false}
use Rattle.std.proofs.lemmas.List.{with_items_is}
use Rattle.std.specs.List.{All}
use Rattle.affine_systems.specs.declared.row.Row.{Row}
use Rattle.affine_systems.specs.Rows.{system}
use Rattle.affine_systems.specs.Given.{AreNormal}
use Rattle.affine_systems.specs.Tidy.{row_limit}
use Rattle.affine_systems.specs.Items.{items_from, rows_of}
use Rattle.affine_systems.proofs.FitLaws.{rows_of-items_from}
use Rattle.work_area.specs.Slots.{items_in, HaveRoom}
use Rattle.work_area.specs.Columns.{InColumns, noted_rows}
use Rattle.work_area.specs.Area.{area}
use Rattle.work_area.proofs.NoteSteps.{rows_in_columns, few_noted}
use Rattle.work_area.proofs.LoadSteps.{short}
use Rattle.work_area.proofs.TableSteps.{ready_zero}
use Rattle.work_area.proofs.work.Work.load.Goals as goal

pub returns-then-not-note_rows-clause-exactly : goal.returns-then-not-note_rows-clause-exactly
returns-then-not-note_rows-clause-exactly c = (
  (λ e. cc),
  (λ h. let n = ap (λ a. a.columns) c.self.view_is in
      let g : noted_rows c.clear.new.self.items c.as_slice.result.now ≡ noted_rows [] c.args.sys.now.rows = ap₂ noted_rows c.clear.ensures.items c.as_slice.ensures in
      let l = few_noted c.args.sys.now.rows c.args.self.now.columns 0 h in
      let m = c.note_rows.ensures.notes.full c.if-not-note_rows.true in
      absurd (omega (arith, n, l, m, ap length g))),
)

pub put_rows-requires-clause-fit : goal.put_rows-requires-clause-fit
put_rows-requires-clause-fit c =
    let rs = c.args.sys.now.rows in
    let n = c.self.inside.columns in
    let g : noted_rows c.clear.new.self.items c.as_slice.result.now ≡ noted_rows [] rs = ap₂ noted_rows c.clear.ensures.items c.as_slice.ensures in
    let m = (c.note_rows.ensures.notes.done c.if-not-note_rows.false).1 in
    let k = rows_in_columns rs n 0 (omega (arith, m, ap length g)) in
    record {
      width = n;
      short = subst (λ (ss : List Row). All (λ (r : Row). length r.terms ≤ n) ss) (sym c.as_slice-2.ensures) (short rs n c.requires.1 k);
      wide = subst (HaveRoom n) (sym c.as_mut_slice.ensures.value) c.self.invariant.ready.rows;
    }

pub invariant_of-self-2 : goal.invariant_of-self-2
invariant_of-self-2 c =
    let rs = c.args.sys.now.rows in
    let n = c.self.inside.columns in
    let v = c.self.inside.tables.rows in
    let out = c.put_rows.new.out in
    let g : noted_rows c.clear.new.self.items c.as_slice.result.now ≡ noted_rows [] rs = ap₂ noted_rows c.clear.ensures.items c.as_slice.ensures in
    let m = (c.note_rows.ensures.notes.done c.if-not-note_rows.false).1 in
    let k = rows_in_columns rs n 0 (omega (arith, m, ap length g)) in
    let e = with_items_is v out (c.put_rows.auto.out ∙ c.as_mut_slice.ensures.len) in
    let i : take c.len-self-inside.result (items_in out) ≡ items_from 0 rs
    = ap (λ z. take z (items_in out)) (c.len-self-inside.ensures ∙ ap length (sym c.as_slice-2.ensures)) ∙ (c.put_rows.ensures.items ∙ ap (items_from 0) c.as_slice-2.ensures) in
    let j = ap (λ ss. take c.len-self-inside.result (items_in ss)) e ∙ i in
    let f = ap rows_of j ∙ rows_of-items_from 0 rs in
    record {
      ready = record {
        places = ap length e ∙ (c.put_rows.auto.out ∙ (ap length c.as_mut_slice.ensures.value ∙ c.self.invariant.ready.places));
        more = c.self.invariant.ready.more;
        within = omega (arith, c.requires.0, c.len-self-inside.ensures);
        rows = subst (HaveRoom n) (sym e) (c.put_rows.ensures.room.kept n (subst (HaveRoom n) (sym c.as_mut_slice.ensures.value) c.self.invariant.ready.rows));
        others = c.self.invariant.ready.others;
        scratch = c.self.invariant.ready.scratch;
        pivot = c.self.invariant.ready.pivot;
      };
      sum = omega (arith, c.self.invariant.sum, c.clear.ensures.capacity, c.note_rows.ensures.room);
      noted = (c.note_rows.ensures.notes.done c.if-not-note_rows.false).0 ∙ (g ∙ ap (noted_rows []) (sym f));
      held = subst (InColumns n) (sym j) k;
      fits = subst (λ (ss : List Row). (length ss ≤ row_limit) × AreNormal false ss) (sym f) c.requires;
    }

pub returns-clause-done : goal.returns-clause-done
returns-clause-done c _ =
    let rs = c.args.sys.now.rows in
    let v = c.self.inside.tables.rows in
    let out = c.put_rows.new.out in
    let e = with_items_is v out (c.put_rows.auto.out ∙ c.as_mut_slice.ensures.len) in
    let i : take c.len-self-inside.result (items_in out) ≡ items_from 0 rs
    = ap (λ z. take z (items_in out)) (c.len-self-inside.ensures ∙ ap length (sym c.as_slice-2.ensures)) ∙ (c.put_rows.ensures.items ∙ ap (items_from 0) c.as_slice-2.ensures) in
    let j = ap (λ ss. take c.len-self-inside.result (items_in ss)) e ∙ i in
    let f = ap rows_of j ∙ rows_of-items_from 0 rs in
    ap₂ (λ (ss : List Row) z. area (system ss c.args.sys.now.weak) z) f (ap (λ a. a.columns) c.self.view_is)

pub returns-clause-exactly : goal.returns-clause-exactly
returns-clause-exactly c =
    let rs = c.args.sys.now.rows in
    let g : noted_rows c.clear.new.self.items c.as_slice.result.now ≡ noted_rows [] rs = ap₂ noted_rows c.clear.ensures.items c.as_slice.ensures in
    let m = (c.note_rows.ensures.notes.done c.if-not-note_rows.false).1 in
    ((λ e. rows_in_columns rs c.args.self.now.columns 0 (omega (arith, m, ap length g, ap (λ a. a.columns) c.self.view_is))), (λ h. refl))

pub note_tables-requires-clause-places : goal.note_tables-requires-clause-places
note_tables-requires-clause-places c = ready_zero c.self.inside.columns c.self.inside.tables c.self.invariant.ready
