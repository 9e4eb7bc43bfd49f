use Rattle.std.proofs.Common.{◌∙◌, false, List, take, length, ap, subst, arith, refl}
use Rattle.std.proofs.lemmas.List.{with_items_is}
use Rattle.affine_systems.specs.Tidy.{in_form, any_too_big}
use Rattle.work_area.specs.declared.slot.Slot.{Slot}
use Rattle.work_area.specs.Slots.{items_in, KeepsRoom}
use Rattle.work_area.proofs.TableSteps.{ready_rows}
use Rattle.work_area.proofs.tidying.form.Goals as goal

pub returns-clause-items : goal.returns-clause-items
returns-clause-items c =
    let t = c.args.tables.now in
    let out = c.form_front-len.new.rows in
    let v = with_items_is t.rows out (c.form_front-len.auto.rows ∙ c.as_mut_slice.ensures.len) in
    ap (λ ss. take c.form_front-len.result.0 (items_in ss)) v
    ∙ (c.form_front-len.ensures.items ∙ ap (λ (ss : List Slot). in_form false (take t.len (items_in ss))) c.as_mut_slice.ensures.value)

pub returns-clause-ready : goal.returns-clause-ready
returns-clause-ready c =
    let t = c.args.tables.now in
    let out = c.form_front-len.new.rows in
    let v = with_items_is t.rows out (c.form_front-len.auto.rows ∙ c.as_mut_slice.ensures.len) in
    record {
      kept = λ n r. ready_rows n t _ out v (c.form_front-len.auto.rows ∙ ap length c.as_mut_slice.ensures.value)
          (subst (λ ss. KeepsRoom ss out) c.as_mut_slice.ensures.value c.form_front-len.ensures.room) (omega (arith, c.form_front-len.ensures.within, r.within)) refl refl refl r;
    }

pub returns-clause-lost : goal.returns-clause-lost
returns-clause-lost c =
    let t = c.args.tables.now in
    c.form_front-len.ensures.lost ∙ ap (λ (ss : List Slot). any_too_big false (take t.len (items_in ss))) c.as_mut_slice.ensures.value
