use Rattle.std.proofs.Common.{◌∙◌, List, take, length, ap, subst, refl}
use Rattle.std.proofs.lemmas.List.{with_items_is}
use Rattle.work_area.specs.declared.slot.Slot.{Slot}
use Rattle.work_area.specs.Slots.{items_in, KeepsRoom}
use Rattle.hull_projection.specs.Refute.{with_originals}
use Rattle.work_area.proofs.TableSteps.{ready_rows}
use Rattle.work_area.proofs.marking.mark_rows.Goals as goal

pub returns-clause-items : goal.returns-clause-items
returns-clause-items c =
    let t = c.args.tables.now in
    let out = c.mark_front.new.rows in
    let v = with_items_is t.rows out (c.mark_front.auto.rows ∙ c.as_mut_slice.ensures.len) in
    ap (λ ss. take t.len (items_in ss)) v
    ∙ (c.mark_front.ensures.items ∙ ap (λ (ss : List Slot). with_originals 0 (take t.len (items_in ss))) c.as_mut_slice.ensures.value)

pub returns-clause-ready : goal.returns-clause-ready
returns-clause-ready c =
    let t = c.args.tables.now in
    let out = c.mark_front.new.rows in
    let v = with_items_is t.rows out (c.mark_front.auto.rows ∙ c.as_mut_slice.ensures.len) in
    record {
      kept = λ n r. ready_rows n t _ out v (c.mark_front.auto.rows ∙ ap length c.as_mut_slice.ensures.value)
          (subst (λ ss. KeepsRoom ss out) c.as_mut_slice.ensures.value c.mark_front.ensures.room) r.within refl refl refl r;
    }
