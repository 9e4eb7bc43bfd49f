use Rattle.std.proofs.Common.{◌∙◌, ◌<◌, ◌+◌, ◌++◌, ◌∷◌, List, length, take, append-nil, arith, ap, sym, subst}
use Rattle.affine_systems.specs.declared.items.Item.{Item}
use Rattle.affine_systems.specs.Points.{factor_of}
use Rattle.affine_systems.specs.Items.{false_item}
use Rattle.affine_systems.specs.Eliminate.{is_upper, keep, with_uppers}
use Rattle.std.specs.Prelude.{neg_ℤ}
use Rattle.work_area.specs.Slots.{item_in, items_in}
use Rattle.work_area.specs.Filling.{Stands}
use Rattle.work_area.specs.Columns.{AreAmong}
use Rattle.work_area.proofs.FaceSteps.{small_at}
use Rattle.work_area.proofs.Swaps.{item_read, length-items_in, keeps_more, first_has}
use Rattle.work_area.proofs.ColumnLaws.{among_at, combined_short}
use Rattle.work_area.proofs.PairSteps.{nothing_kept, kept_in, kept_out, all_kept, kept_few, length_more, one_pair}
use Rattle.work_area.proofs.pairing.add_uppers.Goals as goal

pub loop-up-init : goal.loop-up-init
loop-up-init c =
    let f = is_upper c.args.v in
    let items = items_in c.args.rows.now in
    let low = item_in c.args.low.now in
    let e = nothing_kept f items in
    record {
      within = c.requires.len;
      len = c.requires.places;
      stands = λ is h. subst (λ (js : List Item). Stands js c.args.out.now c.args.filled.now) (sym (ap (λ us. is ++ with_uppers c.args.made c.args.v low us) e ∙ append-nil is)) h;
      number = omega (arith, ap length e);
      room = record { kept = λ n h. h };
    }

pub is_upper-requires : goal.is_upper-requires
is_upper-requires c = small_at c.args.rows.now c.loop-up.up-index c.up-item.result c.requires.each c.loop-up-test.true c.up-item.is

pub loop-up-preserved-then-not-is_upper : goal.loop-up-preserved-then-not-is_upper
loop-up-preserved-then-not-is_upper c =
    let f = is_upper c.args.v in
    let ss = c.args.rows.now in
    let k = c.loop-up.up-index in
    let low = item_in c.args.low.now in
    let i = c.loop-up.invariant in
    let e = kept_out f ss k c.up-item.result c.loop-up-test.true c.up-item.is (sym c.is_upper.ensures ∙ c.if-not-is_upper.true) in
    record {
      within = i.within;
      len = i.len;
      stands = λ is h. subst (λ (us : List Item). Stands (is ++ with_uppers c.args.made c.args.v low us) c.loop-up.out c.loop-up.filled) (sym e) (i.stands is h);
      number = i.number ∙ ap (λ us. c.args.made + length us) (sym e);
      room = i.room;
    }

pub add_pair-requires-clause-two : goal.add_pair-requires-clause-two
add_pair-requires-clause-two c = small_at c.args.rows.now c.loop-up.up-index c.up-item.result c.requires.each c.loop-up-test.true c.up-item.is

pub add_pair-requires-clause-room : goal.add_pair-requires-clause-room
add_pair-requires-clause-room c =
    let r = c.requires.roomy in
    let ss = c.args.rows.now in
    let k = c.loop-up.up-index in
    let up = c.up-item.result in
    let v = c.args.v in
    let ts = c.args.low.now.terms.items in
    let us = up.terms.items in
    let l : k < length (items_in ss) = omega (arith, length-items_in ss, c.loop-up-test.true) in
    let a = subst (λ (j : Item). AreAmong r.held.columns j.row.terms) (item_read ss k up false_item c.loop-up-test.true c.up-item.is) (among_at r.held.columns (items_in ss) k false_item r.held.among.1 l) in
    let b = combined_short r.width r.held.columns (factor_of v us) ts (neg_ℤ (factor_of v ts)) us r.held.ascends r.held.few r.held.among.0 a in
    let w = first_has r.width c.loop-up.scratch c.loop-up.out (c.loop-up.invariant.room.kept r.width r.wide) in
    omega (arith, b, w)

pub overflow_add-next : goal.overflow_add-next
overflow_add-next c = omega (arith, c.loop-up.invariant.number, kept_few (is_upper c.args.v) (items_in c.args.rows.now) c.loop-up.up-index, c.requires.made, c.loop-up-test.true)

pub loop-up-preserved : goal.loop-up-preserved
loop-up-preserved c =
    let f = is_upper c.args.v in
    let ss = c.args.rows.now in
    let k = c.loop-up.up-index in
    let low = item_in c.args.low.now in
    let up = item_in c.up-item.result in
    let i = c.loop-up.invariant in
    let us = keep f (take k (items_in ss)) in
    let vs = keep f (take (k + 1) (items_in ss)) in
    let e = kept_in f ss k c.up-item.result c.loop-up-test.true c.up-item.is (sym c.is_upper.ensures ∙ c.if-not-is_upper.false) in
    record {
      within = c.add_pair.ensures.within;
      len = c.add_pair.auto.out ∙ i.len;
      stands = λ is h. subst (λ (js : List Item). Stands js c.add_pair.new.out c.add_pair.new.filled) (one_pair c.args.made c.loop-up.next c.args.v low up us vs is e i.number)
          (c.add_pair.ensures.stands (is ++ with_uppers c.args.made c.args.v low us) (i.stands is h));
      number = omega (arith, i.number, length_more us vs up e);
      room = keeps_more (c.args.scratch.now ∷ c.args.out.now) (c.loop-up.scratch ∷ c.loop-up.out) (c.add_pair.new.scratch ∷ c.add_pair.new.out) i.room c.add_pair.ensures.room;
    }

pub returns-clause-stands : goal.returns-clause-stands
returns-clause-stands c = λ is h.
    subst (λ (us : List Item). Stands (is ++ with_uppers c.args.made c.args.v (item_in c.args.low.now) us) c.loop-up.out c.loop-up.filled) (all_kept (is_upper c.args.v) c.args.rows.now c.loop-up.up-index c.loop-up-test.false) (c.loop-up.invariant.stands is h)

pub returns-clause-next : goal.returns-clause-next
returns-clause-next c = c.loop-up.invariant.number ∙ ap (λ us. c.args.made + length us) (all_kept (is_upper c.args.v) c.args.rows.now c.loop-up.up-index c.loop-up-test.false)
