use Rattle.std.proofs.Common.{◌∙◌, ◌^◌, ◌∷◌, false, List, length, take, arith, ap, ap₂, sym, refl, subst}
use Rattle.std.proofs.lemmas.List.{with_items_is, length-take-le}
use Rattle.affine_systems.specs.declared.items.Item.{Item}
use Rattle.affine_systems.specs.Rows.{AllRows}
use Rattle.affine_systems.specs.Items.{rows_of, next_made}
use Rattle.affine_systems.specs.Given.{IsNormal, ItemsSmall}
use Rattle.affine_systems.specs.Forms.{IsForm}
use Rattle.elimination.proofs.ElimSteps.{fit_small}
use Rattle.work_area.specs.declared.slot.Slot.{Slot}
use Rattle.work_area.specs.Slots.{items_in, HaveRoom, KeepsRoom}
use Rattle.work_area.specs.Columns.{InColumns}
use Rattle.work_area.proofs.Swaps.{both_have}
use Rattle.work_area.specs.Outcomes.{paired_items}
use Rattle.work_area.specs.Tables.{items_of, MadeBelow}
use Rattle.work_area.proofs.MadeLaws.{below_more, next_below}
use Rattle.work_area.proofs.TableSteps.{front_is, ready_formed}
use Rattle.work_area.proofs.PairSteps.{fit_normal}
use Rattle.work_area.proofs.pairing.form_pairs.Goals as goal

pub next_made-made-requires : goal.next_made-made-requires
next_made-made-requires c =
    subst (MadeBelow (2 ^ 127)) (sym (front_is c.args.tables.now c.as_slice-rows.result.now c.as_slice-rows.ensures.value)) (below_more (2 ^ 126) (2 ^ 127) (items_of c.args.tables.now) (omega arith) c.requires.below)

pub pair_form-len-requires-clause-made : goal.pair_form-len-requires-clause-made
pair_form-len-requires-clause-made c =
    let e = c.next_made-made.ensures.defined ∙ ap next_made (front_is c.args.tables.now c.as_slice-rows.result.now c.as_slice-rows.ensures.value) in
    omega (arith, e, next_below (2 ^ 126) (items_of c.args.tables.now) c.requires.below)

pub pair_form-len-requires-clause-few : goal.pair_form-len-requires-clause-few
pair_form-len-requires-clause-few c =
    let t = c.args.tables.now in
    omega (arith, length-take-le t.len c.as_slice-rows.result.now (omega (arith, c.requires.sound.ready.within, c.requires.sound.ready.places, ap length c.as_slice-rows.ensures.value)), c.requires.sound.ready.within)

pub pair_form-len-requires-clause-each : goal.pair_form-len-requires-clause-each
pair_form-len-requires-clause-each c = subst ItemsSmall (sym (front_is c.args.tables.now c.as_slice-rows.result.now c.as_slice-rows.ensures.value)) (fit_small false (items_of c.args.tables.now) c.requires.fits)

pub pair_form-len-requires-clause-normal : goal.pair_form-len-requires-clause-normal
pair_form-len-requires-clause-normal c =
    subst (λ (js : List Item). AllRows IsNormal (rows_of js)) (sym (front_is c.args.tables.now c.as_slice-rows.result.now c.as_slice-rows.ensures.value)) (fit_normal c.args.v (items_of c.args.tables.now) c.requires.fits c.requires.has)

pub pair_form-len-requires-clause-roomy : goal.pair_form-len-requires-clause-roomy
pair_form-len-requires-clause-roomy c =
    let t = c.args.tables.now in
    let w = c.requires.sound.width in
    let r = c.requires.sound.ready in
    record {
      width = w;
      wide = both_have w t.scratch c.as_mut_slice.result.now r.scratch (subst (HaveRoom w) (sym c.as_mut_slice.ensures.value) r.others);
      held = subst (InColumns w) (sym (front_is t c.as_slice-rows.result.now c.as_slice-rows.ensures.value)) c.requires.sound.held;
    }

pub returns-clause-form : goal.returns-clause-form
returns-clause-form c =
    let t = c.args.tables.now in
    let v = c.args.v in
    let out = c.pair_form-len.new.out in
    let e = front_is t c.as_slice-rows.result.now c.as_slice-rows.ensures.value in
    let m = c.next_made-made.ensures.defined ∙ ap next_made e in
    let w = with_items_is t.others out (c.pair_form-len.auto.out ∙ c.as_mut_slice.ensures.len) in
    let p = ap₂ (λ n (js : List Item). paired_items n v js) m e in
    let k = ap (λ x. take c.pair_form-len.result.0 (items_in x.items)) c.swap.ensures.x_after ∙ ap (λ (ss : List Slot). take c.pair_form-len.result.0 (items_in ss)) w in
    subst (λ (js : List Item). IsForm false js (take c.pair_form-len.result.0 (items_in c.swap.new.x.items)) c.pair_form-len.result.1) p (subst (λ (js : List Item). IsForm false (paired_items c.next_made-made.result v (items_in (take t.len c.as_slice-rows.result.now))) js c.pair_form-len.result.1) (sym k) c.pair_form-len.ensures.form)

pub returns-clause-ready : goal.returns-clause-ready
returns-clause-ready c =
    let t = c.args.tables.now in
    let out = c.pair_form-len.new.out in
    let w = with_items_is t.others out (c.pair_form-len.auto.out ∙ c.as_mut_slice.ensures.len) in
    record {
      kept = λ n r. ready_formed n t _ out (ap (λ x. x.items) c.swap.ensures.x_after ∙ w) (c.pair_form-len.auto.out ∙ ap length c.as_mut_slice.ensures.value)
          (subst (λ (ss : List Slot). KeepsRoom (t.scratch ∷ ss) (c.pair_form-len.new.scratch ∷ out)) c.as_mut_slice.ensures.value c.pair_form-len.ensures.room) c.pair_form-len.ensures.within c.swap.ensures.y_after refl r;
    }
