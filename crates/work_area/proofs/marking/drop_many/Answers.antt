use Rattle.std.proofs.Common.{◌∙◌, List, take, length, ap, subst, arith, refl}
use Rattle.std.proofs.lemmas.List.{with_items_is}
use Rattle.work_area.specs.declared.slot.Slot.{Slot}
use Rattle.work_area.specs.Slots.{items_in, KeepsRoom}
use Rattle.hull_projection.specs.Refute.{with_few}
use Rattle.work_area.proofs.TableSteps.{ready_rows}
use Rattle.work_area.proofs.marking.drop_many.Goals as goal

pub returns-clause-items : goal.returns-clause-items
returns-clause-items c =
    let t = c.args.tables.now in
    let out = c.few_front-len.new.rows in
    let v = with_items_is t.rows out (c.few_front-len.auto.rows ∙ c.as_mut_slice.ensures.len) in
    ap (λ ss. take c.few_front-len.result (items_in ss)) v
    ∙ (c.few_front-len.ensures.items ∙ ap (λ (ss : List Slot). with_few c.args.pairs (take t.len (items_in ss))) c.as_mut_slice.ensures.value)

pub returns-clause-ready : goal.returns-clause-ready
returns-clause-ready c =
    let t = c.args.tables.now in
    let out = c.few_front-len.new.rows in
    let v = with_items_is t.rows out (c.few_front-len.auto.rows ∙ c.as_mut_slice.ensures.len) in
    record {
      kept = λ n r. ready_rows n t _ out v (c.few_front-len.auto.rows ∙ ap length c.as_mut_slice.ensures.value)
          (subst (λ ss. KeepsRoom ss out) c.as_mut_slice.ensures.value c.few_front-len.ensures.room) (omega (arith, c.few_front-len.ensures.within, r.within)) refl refl refl r;
    }
