use Rattle.std.proofs.Common.{◌∙◌, ◌^◌, ◌∷◌, List, take, length, sym, ap, ap₂, subst, arith, refl, ◌-◌}
use Rattle.std.proofs.lemmas.List.{with_items_is}
use Rattle.affine_systems.specs.Items.{next_made, cut_of, others}
use Rattle.affine_systems.specs.Eliminate.{all_cancelled}
use Rattle.work_area.specs.declared.slot.Slot.{Slot}
use Rattle.work_area.specs.Slots.{items_in, KeepsRoom}
use Rattle.work_area.specs.Tables.{MadeBelow}
use Rattle.work_area.proofs.TableSteps.{front_is, ready_pivot}
use Rattle.work_area.proofs.substitution.cancel.Goals as goal

pub next_made-made-requires : goal.next_made-made-requires
next_made-made-requires c = subst (MadeBelow (2 ^ 127)) (sym (front_is c.args.tables.now c.as_slice-rows.result.now c.as_slice-rows.ensures.value)) c.requires.below

pub returns-clause-ready : goal.returns-clause-ready
returns-clause-ready c =
    let t = c.args.tables.now in
    let out = c.cancel_by_front.new.rows in
    let v = with_items_is t.rows out (c.cancel_by_front.auto.rows ∙ c.as_mut_slice.ensures.len) in
    record {
      kept = λ n r. ready_pivot n t _ out v (c.cancel_by_front.auto.rows ∙ ap length c.as_mut_slice.ensures.value)
          (subst (λ ss. KeepsRoom (t.scratch ∷ t.pivot ∷ ss) (c.cancel_by_front.new.scratch ∷ c.cancel_by_front.new.pivot ∷ out)) c.as_mut_slice.ensures.value c.cancel_by_front.ensures.room) (omega (arith, r.within)) refl r;
    }

pub returns-clause-items : goal.returns-clause-items
returns-clause-items c =
    let t = c.args.tables.now in
    let out = c.cancel_by_front.new.rows in
    let v = with_items_is t.rows out (c.cancel_by_front.auto.rows ∙ c.as_mut_slice.ensures.len) in
    let e = ap (λ (ss : List Slot). take t.len (items_in ss)) c.as_mut_slice.ensures.value in
    let m = c.next_made-made.ensures.defined ∙ ap next_made (front_is t c.as_slice-rows.result.now c.as_slice-rows.ensures.value) in
    ap (λ ss. take (t.len - 1) (items_in ss)) v
    ∙ (c.cancel_by_front.ensures.items ∙ ap₂ (λ k is. all_cancelled k (cut_of is c.args.at).at c.args.v (others (cut_of is c.args.at))) m e)
