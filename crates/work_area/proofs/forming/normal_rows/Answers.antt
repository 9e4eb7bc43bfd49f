use Rattle.std.proofs.Common.{◌≡◌, ◌∙◌, ◌<◌, ◌||◌, Bool, true, false, length, get_or, set, arith, ap, sym, refl}
use Rattle.std.proofs.lemmas.List.{length-set}
use Rattle.affine_systems.specs.Items.{false_item}
use Rattle.affine_systems.specs.Normal.{normal}
use Rattle.work_area.specs.Slots.{row_in, item_in, items_in}
use Rattle.work_area.proofs.Swaps.{length-items_in, items_in-swap, items_in-set, item_at, keeps_set, keeps_swap, keeps_more}
use Rattle.work_area.proofs.SortSteps.{heads}
use Rattle.work_area.proofs.FormSteps.{settles_stays, settles_goes, settles_lost, lost_more, form_stays, form_goes, rest_set, rest_swapped}
use Rattle.work_area.proofs.forming.normal_rows.Goals as goal

or_false : (b : Bool) → b ≡ (b || false)
or_false true = refl
or_false false = refl

or_true : (b : Bool) → true ≡ (b || true)
or_true true = refl
or_true false = refl

pub loop-i-preserved-in-Goes : goal.loop-i-preserved-in-Goes
loop-i-preserved-in-Goes c =
    let ss = c.loop-i.rows in
    let i = c.loop-i.i in
    let old = items_in c.args.rows.now in
    let cur = items_in ss in
    let r = get_or ss i c.index-rows-i.result in
    let x = item_in r in
    let y = item_in c.settle_form.new.slot in
    let l : i < length ss = omega (arith, c.loop-i-test.true, c.loop-i.invariant.len) in
    let f : i < length cur = omega (arith, length-items_in ss, l) in
    let g : i < length old = omega (arith, length-items_in c.args.rows.now, c.loop-i-test.true) in
    let e : get_or old i false_item ≡ x = sym (heads cur old i false_item f g c.loop-i.invariant.rest) ∙ item_at ss i c.index-rows-i.result false_item l in
    let w = settles_goes (normal false (row_in r)) c.settle_form.result x y c.settle_form.ensures.form c.in-Goes.is in
    let m = items_in-set ss i c.settle_form.new.slot in
    let k : c.loop-i.lost ≡ (c.loop-i.lost || false) = or_false c.loop-i.lost in
    record {
      before = omega (arith, c.loop-i.invariant.before);
      items = form_goes old cur (items_in (set ss i c.settle_form.new.slot)) x y i c.loop-i.kept false_item c.loop-i.invariant.before g e w.0 m c.loop-i.invariant.items;
      lost = k ∙ lost_more old x i false_item c.loop-i.lost false g e w.1 c.loop-i.invariant.lost;
      rest = rest_set old cur (items_in (set ss i c.settle_form.new.slot)) y i false_item f g m c.loop-i.invariant.rest;
      len = length-set ss i c.settle_form.new.slot ∙ c.loop-i.invariant.len;
      room = keeps_more c.args.rows.now ss (set ss i c.settle_form.new.slot) c.loop-i.invariant.room (keeps_set ss (set ss i c.settle_form.new.slot) i c.settle_form.new.slot c.index-rows-i.result l c.settle_form.ensures.room refl);
    }

pub loop-i-preserved-in-Lost : goal.loop-i-preserved-in-Lost
loop-i-preserved-in-Lost c =
    let ss = c.loop-i.rows in
    let i = c.loop-i.i in
    let old = items_in c.args.rows.now in
    let cur = items_in ss in
    let r = get_or ss i c.index-rows-i.result in
    let x = item_in r in
    let y = item_in c.settle_form.new.slot in
    let l : i < length ss = omega (arith, c.loop-i-test.true, c.loop-i.invariant.len) in
    let f : i < length cur = omega (arith, length-items_in ss, l) in
    let g : i < length old = omega (arith, length-items_in c.args.rows.now, c.loop-i-test.true) in
    let e : get_or old i false_item ≡ x = sym (heads cur old i false_item f g c.loop-i.invariant.rest) ∙ item_at ss i c.index-rows-i.result false_item l in
    let w = settles_lost (normal false (row_in r)) c.settle_form.result x y c.settle_form.ensures.form c.in-Lost.is in
    let m = items_in-set ss i c.settle_form.new.slot in
    let k : true ≡ (c.loop-i.lost || true) = or_true c.loop-i.lost in
    record {
      before = omega (arith, c.loop-i.invariant.before);
      items = form_goes old cur (items_in (set ss i c.settle_form.new.slot)) x y i c.loop-i.kept false_item c.loop-i.invariant.before g e w.0 m c.loop-i.invariant.items;
      lost = k ∙ lost_more old x i false_item c.loop-i.lost true g e w.1 c.loop-i.invariant.lost;
      rest = rest_set old cur (items_in (set ss i c.settle_form.new.slot)) y i false_item f g m c.loop-i.invariant.rest;
      len = length-set ss i c.settle_form.new.slot ∙ c.loop-i.invariant.len;
      room = keeps_more c.args.rows.now ss (set ss i c.settle_form.new.slot) c.loop-i.invariant.room (keeps_set ss (set ss i c.settle_form.new.slot) i c.settle_form.new.slot c.index-rows-i.result l c.settle_form.ensures.room refl);
    }

pub loop-i-preserved : goal.loop-i-preserved
loop-i-preserved c =
    let ss = c.loop-i.rows in
    let i = c.loop-i.i in
    let old = items_in c.args.rows.now in
    let cur = items_in ss in
    let r = get_or ss i c.index-rows-i.result in
    let x = item_in r in
    let y = item_in c.settle_form.new.slot in
    let l : i < length ss = omega (arith, c.loop-i-test.true, c.loop-i.invariant.len) in
    let f : i < length cur = omega (arith, length-items_in ss, l) in
    let g : i < length old = omega (arith, length-items_in c.args.rows.now, c.loop-i-test.true) in
    let e : get_or old i false_item ≡ x = sym (heads cur old i false_item f g c.loop-i.invariant.rest) ∙ item_at ss i c.index-rows-i.result false_item l in
    let w = settles_stays (normal false (row_in r)) c.settle_form.result x y c.settle_form.ensures.form c.in-Stays.is in
    let m = items_in-set ss i c.settle_form.new.slot in
    let mid = set ss i c.settle_form.new.slot in
    let n : i < length mid = omega (arith, l, length-set ss i c.settle_form.new.slot) in
    let q : c.loop-i.kept < length mid = omega (arith, n, c.loop-i.invariant.before) in
    let p = ap items_in c.swap.ensures.after ∙ items_in-swap mid c.loop-i.kept i r q n in
    record {
      before = omega (arith, c.loop-i.invariant.before);
      items = form_stays old cur (items_in mid) (items_in c.swap.new.self) x y i c.loop-i.kept false_item c.loop-i.invariant.before f g e w.0 m p c.loop-i.invariant.items;
      lost = or_false c.loop-i.lost ∙ lost_more old x i false_item c.loop-i.lost false g e w.1 c.loop-i.invariant.lost;
      rest = rest_swapped old cur (items_in mid) (items_in c.swap.new.self) y i c.loop-i.kept false_item c.loop-i.invariant.before f g m p c.loop-i.invariant.rest;
      len = c.swap.ensures.len ∙ (length-set ss i c.settle_form.new.slot ∙ c.loop-i.invariant.len);
      room = keeps_more c.args.rows.now ss c.swap.new.self c.loop-i.invariant.room
          (keeps_more ss mid c.swap.new.self (keeps_set ss (set ss i c.settle_form.new.slot) i c.settle_form.new.slot c.index-rows-i.result l c.settle_form.ensures.room refl) (keeps_swap mid c.swap.new.self c.loop-i.kept i r q n c.swap.ensures.after));
    }
