use Rattle.std.proofs.Common.{◌≡◌, ◌∙◌, ◌+◌, ◌<◌, true, false, length, take, drop, get_or, arith, ap, sym}
use Rattle.affine_systems.specs.Items.{false_item}
use Rattle.work_area.specs.Slots.{items_in}
use Rattle.work_area.proofs.Swaps.{length-items_in, items_in-swap, item_at, keeps_swap, keeps_more}
use Rattle.work_area.proofs.SortSteps.{drop-swap, tails}
use Rattle.hull_projection.specs.Refute.{has_few, with_few}
use Rattle.work_area.proofs.RefuteSteps.{few_stays, few_goes}
use Rattle.work_area.proofs.marking.few_front.Goals as goal

pub loop-i-preserved : goal.loop-i-preserved
loop-i-preserved c =
    let ss = c.loop-i.rows in
    let old = items_in c.args.rows.now in
    let i = c.loop-i.i in
    let kept = c.loop-i.kept in
    let l : i < length ss = omega (arith, c.loop-i-test.true, c.requires, c.loop-i.invariant.len) in
    let k : kept < length ss = omega (arith, l, c.loop-i.invariant.before) in
    let f : i < length (items_in ss) = omega (arith, length-items_in ss, l) in
    let g : i < length old = omega (arith, length-items_in c.args.rows.now, l, c.loop-i.invariant.len) in
    let p : has_few c.args.pairs (get_or (items_in ss) i false_item) ≡ true
    = ap (has_few c.args.pairs) (item_at ss i c.index-rows-i.result false_item l) ∙ (sym c.has_few.ensures ∙ c.if-not-has_few.false) in
    let e = ap items_in c.swap.ensures.after ∙ items_in-swap ss kept i c.index-rows-i.result k l in
    record {
      before = omega (arith, c.loop-i.invariant.before);
      items = few_stays (has_few c.args.pairs) old (items_in ss) (items_in c.swap.new.self) i kept false_item c.loop-i.invariant.before f g p c.loop-i.invariant.rest e c.loop-i.invariant.items;
      rest = ap (drop (i + 1)) e ∙ (drop-swap (items_in ss) kept i (i + 1) false_item (omega (arith, c.loop-i.invariant.before)) (omega arith) (omega (arith, length-items_in ss, k)) f ∙ tails (items_in ss) old i false_item f g c.loop-i.invariant.rest);
      len = c.swap.ensures.len ∙ c.loop-i.invariant.len;
      room = keeps_more c.args.rows.now ss c.swap.new.self c.loop-i.invariant.room (keeps_swap ss c.swap.new.self kept i c.index-rows-i.result k l c.swap.ensures.after);
    }

pub loop-i-preserved-then-not-has_few : goal.loop-i-preserved-then-not-has_few
loop-i-preserved-then-not-has_few c =
    let ss = c.loop-i.rows in
    let old = items_in c.args.rows.now in
    let i = c.loop-i.i in
    let kept = c.loop-i.kept in
    let l : i < length ss = omega (arith, c.loop-i-test.true, c.requires, c.loop-i.invariant.len) in
    let f : i < length (items_in ss) = omega (arith, length-items_in ss, l) in
    let g : i < length old = omega (arith, length-items_in c.args.rows.now, l, c.loop-i.invariant.len) in
    let p : has_few c.args.pairs (get_or (items_in ss) i false_item) ≡ false
    = ap (has_few c.args.pairs) (item_at ss i c.index-rows-i.result false_item l) ∙ (sym c.has_few.ensures ∙ c.if-not-has_few.true) in
    record {
      before = omega (arith, c.loop-i.invariant.before);
      items = few_goes (has_few c.args.pairs) old (items_in ss) i kept false_item f g p c.loop-i.invariant.rest c.loop-i.invariant.items;
      rest = tails (items_in ss) old i false_item f g c.loop-i.invariant.rest;
      len = c.loop-i.invariant.len;
      room = c.loop-i.invariant.room;
    }

pub returns-clause-items : goal.returns-clause-items
returns-clause-items c =
    let e : c.loop-i.i ≡ c.args.len = omega arith in
    c.loop-i.invariant.items ∙ ap (λ n. with_few c.args.pairs (take n (items_in c.args.rows.now))) e
