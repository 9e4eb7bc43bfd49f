use Rattle.std.proofs.Common.{◌∙◌, List, take, length, ap, subst, refl}
use Rattle.std.proofs.lemmas.List.{with_items_is}
use Rattle.affine_systems.specs.Items.{items_from, rows_of}
use Rattle.work_area.specs.declared.slot.Slot.{Slot}
use Rattle.work_area.specs.Slots.{items_in, KeepsRoom}
use Rattle.work_area.proofs.TableSteps.{ready_rows}
use Rattle.work_area.proofs.tables.start.Goals as goal

pub returns-clause-items : goal.returns-clause-items
returns-clause-items c =
    let t = c.args.tables.now in
    let out = c.renumber_front.new.rows in
    let v = with_items_is t.rows out (c.renumber_front.auto.rows ∙ c.as_mut_slice.ensures.len) in
    ap (λ ss. take t.len (items_in ss)) v
    ∙ (c.renumber_front.ensures.items ∙ ap (λ (ss : List Slot). items_from 0 (rows_of (take t.len (items_in ss)))) c.as_mut_slice.ensures.value)

pub returns-clause-ready : goal.returns-clause-ready
returns-clause-ready c =
    let t = c.args.tables.now in
    let out = c.renumber_front.new.rows in
    let v = with_items_is t.rows out (c.renumber_front.auto.rows ∙ c.as_mut_slice.ensures.len) in
    record {
      kept = λ n r. ready_rows n t _ out v (c.renumber_front.auto.rows ∙ ap length c.as_mut_slice.ensures.value)
          (subst (λ ss. KeepsRoom ss out) c.as_mut_slice.ensures.value c.renumber_front.ensures.room) r.within refl refl refl r;
    }
