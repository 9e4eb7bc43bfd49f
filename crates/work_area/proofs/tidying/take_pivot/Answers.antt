use Rattle.std.proofs.Common.{◌∙◌, ◌^◌, ◌∷◌, List, take, length, sym, ap, subst, refl}
use Rattle.std.proofs.lemmas.List.{with_items_is}
use Rattle.affine_systems.specs.Items.{next_made}
use Rattle.work_area.specs.declared.slot.Slot.{Slot}
use Rattle.work_area.specs.Slots.{items_in, KeepsRoom}
use Rattle.work_area.specs.Tables.{MadeBelow}
use Rattle.work_area.proofs.TableSteps.{front_is, ready_pivot}
use Rattle.work_area.proofs.tidying.take_pivot.Goals as goal

pub next_made-made-requires : goal.next_made-made-requires
next_made-made-requires c = subst (MadeBelow (2 ^ 127)) (sym (front_is c.args.tables.now c.as_slice-rows.result.now c.as_slice-rows.ensures.value)) c.requires.below

pub take_pivot_front-requires-clause-number : goal.take_pivot_front-requires-clause-number
take_pivot_front-requires-clause-number c =
    c.next_made-made.ensures.defined ∙ ap next_made (front_is c.args.tables.now c.as_slice-rows.result.now c.as_slice-rows.ensures.value ∙ ap (λ (ss : List Slot). take c.args.tables.now.len (items_in ss)) (sym c.as_mut_slice.ensures.value))

pub returns-clause-ready : goal.returns-clause-ready
returns-clause-ready c =
    let t = c.args.tables.now in
    let out = c.take_pivot_front.new.rows in
    let v = with_items_is t.rows out (c.take_pivot_front.auto.rows ∙ c.as_mut_slice.ensures.len) in
    record {
      kept = λ n r. ready_pivot n t _ out v (c.take_pivot_front.auto.rows ∙ ap length c.as_mut_slice.ensures.value)
          (subst (λ ss. KeepsRoom (t.scratch ∷ t.pivot ∷ ss) (c.take_pivot_front.new.scratch ∷ c.take_pivot_front.new.pivot ∷ out)) c.as_mut_slice.ensures.value c.take_pivot_front.ensures.room) r.within refl r;
    }
