use Rattle.std.proofs.Common.{◌∙◌, ◌≤◌, ◌<◌, ◌+◌, length, set, sym, ap, subst, arith, refl}
use Rattle.std.proofs.lemmas.List.{length-set}
use Rattle.affine_systems.specs.Items.{false_item}
use Rattle.affine_systems.specs.Tidy.{face_opposite}
use Rattle.work_area.specs.declared.slot.Slot.{Slot}
use Rattle.work_area.specs.Slots.{item_in, items_in}
use Rattle.work_area.proofs.Swaps.{item_read, items_in-set, length-items_in, keeps_more, keeps_set}
use Rattle.work_area.proofs.FaceSteps.{small_at, face_more}
use Rattle.work_area.proofs.facing.face_all.Goals as goal

pub put_facing-requires-clause-small : goal.put_facing-requires-clause-small
put_facing-requires-clause-small c = small_at c.args.rows.now c.loop-i.i c.index-rows-i.result c.requires.each c.loop-i-test.true c.index-rows-i.is

pub put_facing-requires-clause-one : goal.put_facing-requires-clause-one
put_facing-requires-clause-one c =
    let w = c.loop-i.invariant.room.kept c.requires.fit.width c.requires.fit.wide c.loop-i.i c.index-out-i.result (omega (arith, c.loop-i-test.true, c.requires.places, c.loop-i.invariant.len)) in
    let s : length c.index-rows-i.result.terms.items ≤ c.requires.fit.width
    = subst (λ (r : Slot). length r.terms.items ≤ c.requires.fit.width) (sym c.index-rows-i.is) (c.requires.fit.short c.loop-i.i c.index-rows-i.result c.loop-i-test.true) in
    omega (arith, w, s)

pub put_facing-requires-clause-all : goal.put_facing-requires-clause-all
put_facing-requires-clause-all c k d l =
    let w = c.loop-i.invariant.room.kept c.requires.fit.width c.requires.fit.wide c.loop-i.i c.index-out-i.result (omega (arith, c.loop-i-test.true, c.requires.places, c.loop-i.invariant.len)) in
    let s = c.requires.fit.short k d l in
    omega (arith, w, s)

pub loop-i-preserved : goal.loop-i-preserved
loop-i-preserved c =
    let ss = c.args.rows.now in
    let i = c.loop-i.i in
    let out = c.loop-i.out in
    let new = c.put_facing.new.out in
    let l : i < length out = omega (arith, c.loop-i-test.true, c.requires.places, c.loop-i.invariant.len) in
    let e = item_read ss i c.index-rows-i.result false_item c.loop-i-test.true c.index-rows-i.is in
    record {
      items = face_more c.args.made (items_in ss) (items_in ss) (items_in out) (items_in (set out i new)) i false_item (item_in new)
          (omega (arith, length-items_in ss, c.loop-i-test.true)) (omega (arith, length-items_in out, l)) (items_in-set out i new)
          (c.put_facing.ensures.item ∙ ap (λ j. face_opposite (c.args.made + i) j (items_in ss)) (sym e)) c.loop-i.invariant.items;
      len = length-set out i new ∙ c.loop-i.invariant.len;
      room = keeps_more c.args.out.now out (set out i new) c.loop-i.invariant.room (keeps_set out (set out i new) i new c.index-out-i.result l c.put_facing.ensures.room refl);
    }
