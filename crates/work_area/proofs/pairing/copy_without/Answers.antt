use Rattle.std.proofs.Common.{◌∙◌, ◌<◌, ◌≤◌, ◌+◌, ◌++◌, ◌∷◌, [], not, length, take, set, arith, ap, ap₂, sym, refl, subst}
use Rattle.std.proofs.lemmas.List.{length-set, take_more_set}
use Rattle.affine_systems.specs.declared.items.Item.{Item}
use Rattle.affine_systems.specs.Eliminate.{is_without}
use Rattle.work_area.specs.declared.slot.Slot.{Slot}
use Rattle.work_area.specs.Slots.{item_in, items_in}
use Rattle.work_area.proofs.FaceSteps.{small_at}
use Rattle.work_area.proofs.Swaps.{items_in-set, length-items_in, keeps_more, keeps_set}
use Rattle.work_area.proofs.PairSteps.{nothing_kept, kept_in, kept_out, all_kept}
use Rattle.work_area.proofs.pairing.copy_without.Goals as goal
use Rattle.elimination.proofs.PairLaws.{none_taken as nothing_taken}

pub loop-slot-init : goal.loop-slot-init
loop-slot-init c = record {
  few = omega arith;
  items = nothing_taken (items_in c.args.out.now) ∙ sym (nothing_kept (is_without c.args.v) (items_in c.args.rows.now));
  len = refl;
  room = record { kept = λ n h. h };
}

pub occurs-requires : goal.occurs-requires
occurs-requires c = small_at c.args.rows.now c.loop-slot.slot-index c.slot-item.result c.requires.each c.loop-slot-test.true c.slot-item.is

pub loop-slot-preserved-then-occurs : goal.loop-slot-preserved-then-occurs
loop-slot-preserved-then-occurs c =
    let i = c.loop-slot.invariant in
    let e = kept_out (is_without c.args.v) c.args.rows.now c.loop-slot.slot-index c.slot-item.result c.loop-slot-test.true c.slot-item.is (ap not (sym c.occurs.ensures ∙ c.if-occurs.true)) in
    record { few = omega (arith, i.few); items = i.items ∙ sym e; len = i.len; room = i.room }

pub copy_from-requires : goal.copy_from-requires
copy_from-requires c =
    let i = c.loop-slot.invariant in
    let f = c.requires.fit in
    let w = i.room.kept f.width f.wide c.loop-slot.kept c.index-out-kept.result (omega (arith, c.loop-slot-test.true, c.requires.places, i.len, i.few)) in
    let s : length c.slot-item.result.terms.items ≤ f.width = subst (λ (r : Slot). length r.terms.items ≤ f.width) (sym c.slot-item.is) (f.short c.loop-slot.slot-index c.slot-item.result c.loop-slot-test.true) in
    omega (arith, w, s)

pub loop-slot-preserved : goal.loop-slot-preserved
loop-slot-preserved c =
    let i = c.loop-slot.invariant in
    let k = c.loop-slot.kept in
    let out = c.loop-slot.out in
    let new = c.copy_from.new.self in
    let l : k < length out = omega (arith, c.loop-slot-test.true, c.requires.places, i.len, i.few) in
    let e = kept_in (is_without c.args.v) c.args.rows.now c.loop-slot.slot-index c.slot-item.result c.loop-slot-test.true c.slot-item.is (ap not (sym c.occurs.ensures ∙ c.if-occurs.false)) in
    record {
      few = omega (arith, i.few);
      items = ap (take (k + 1)) (items_in-set out k new) ∙ (take_more_set (items_in out) k (item_in new) (omega (arith, l, length-items_in out))
          ∙ (ap₂ (λ us (x : Item). us ++ x ∷ []) i.items c.copy_from.ensures.item ∙ sym e));
      len = length-set out k new ∙ i.len;
      room = keeps_more c.args.out.now out (set out k new) i.room (keeps_set out (set out k new) k new c.index-out-kept.result l c.copy_from.ensures.room refl);
    }

pub returns-clause-items : goal.returns-clause-items
returns-clause-items c = c.loop-slot.invariant.items ∙ all_kept (is_without c.args.v) c.args.rows.now c.loop-slot.slot-index c.loop-slot-test.false
