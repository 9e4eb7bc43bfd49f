use Rattle.std.proofs.Common.{◌≡◌, ◌∙◌, ◌<◌, ◌≤◌, ◌+◌, ◌*◌, ◌++◌, ◌∷◌, suc, List, length, take, append-nil, arith, ap, sym, subst}
use Rattle.std.proofs.Math.Nat.{mul-le-mul}
use Rattle.affine_systems.specs.declared.items.Item.{Item}
use Rattle.affine_systems.specs.Items.{false_item}
use Rattle.affine_systems.specs.Eliminate.{is_lower, is_upper, keep, pairs}
use Rattle.work_area.specs.Slots.{item_in, items_in}
use Rattle.work_area.specs.Filling.{Stands}
use Rattle.work_area.specs.Columns.{AreAmong}
use Rattle.work_area.proofs.FaceSteps.{small_at}
use Rattle.work_area.proofs.Swaps.{item_read, length-items_in, keeps_more}
use Rattle.work_area.proofs.ColumnLaws.{among_at}
use Rattle.work_area.proofs.PairSteps.{nothing_kept, kept_in, kept_out, all_kept, kept_few, length_more, more_pairs}
use Rattle.work_area.proofs.pairing.add_pairs.Goals as goal
use Rattle.elimination.proofs.ClosedLaws.{length-keep as kept_no_more}

pub loop-low-init : goal.loop-low-init
loop-low-init c =
    let items = items_in c.args.rows.now in
    let ups = keep (is_upper c.args.v) items in
    let e = nothing_kept (is_lower c.args.v) items in
    record {
      within = c.requires.len;
      len = c.requires.places;
      stands = λ is h. subst (λ (js : List Item). Stands js c.args.out.now c.args.filled.now) (sym (ap (λ us. is ++ pairs c.args.made c.args.v us ups) e ∙ append-nil is)) h;
      number = let z : c.args.made ≡ c.args.made + 0 * length ups = omega arith in z ∙ ap (λ us. c.args.made + length us * length ups) (sym e);
      room = record { kept = λ n h. h };
    }

pub is_lower-requires : goal.is_lower-requires
is_lower-requires c = small_at c.args.rows.now c.loop-low.low-index c.low-item.result c.requires.each c.loop-low-test.true c.low-item.is

pub loop-low-preserved-then-not-is_lower : goal.loop-low-preserved-then-not-is_lower
loop-low-preserved-then-not-is_lower c =
    let items = items_in c.args.rows.now in
    let ups = keep (is_upper c.args.v) items in
    let i = c.loop-low.invariant in
    let e = kept_out (is_lower c.args.v) c.args.rows.now c.loop-low.low-index c.low-item.result c.loop-low-test.true c.low-item.is (sym c.is_lower.ensures ∙ c.if-not-is_lower.true) in
    record {
      within = i.within;
      len = i.len;
      stands = λ is h. subst (λ (us : List Item). Stands (is ++ pairs c.args.made c.args.v us ups) c.loop-low.out c.loop-low.filled) (sym e) (i.stands is h);
      number = i.number ∙ ap (λ us. c.args.made + length us * length ups) (sym e);
      room = i.room;
    }

pub add_uppers-next-requires-clause-made : goal.add_uppers-next-requires-clause-made
add_uppers-next-requires-clause-made c =
    let ss = c.args.rows.now in
    let items = items_in ss in
    let n = length-items_in ss in
    let a = kept_few (is_lower c.args.v) items c.loop-low.low-index in
    let b = kept_no_more (is_upper c.args.v) items in
    let x : length (keep (is_lower c.args.v) (take c.loop-low.low-index items)) ≤ length ss = omega (arith, a, c.loop-low-test.true) in
    let y : length (keep (is_upper c.args.v) items) ≤ length ss = omega (arith, b, n) in
    omega (arith, c.loop-low.invariant.number, mul-le-mul x y, c.requires.made)

pub add_uppers-next-requires-clause-lower : goal.add_uppers-next-requires-clause-lower
add_uppers-next-requires-clause-lower c = sym c.is_lower.ensures ∙ c.if-not-is_lower.false

pub add_uppers-next-requires-clause-low : goal.add_uppers-next-requires-clause-low
add_uppers-next-requires-clause-low c = small_at c.args.rows.now c.loop-low.low-index c.low-item.result c.requires.each c.loop-low-test.true c.low-item.is

pub add_uppers-next-requires-clause-roomy : goal.add_uppers-next-requires-clause-roomy
add_uppers-next-requires-clause-roomy c =
    let r = c.requires.roomy in
    let ss = c.args.rows.now in
    let k = c.loop-low.low-index in
    let l : k < length (items_in ss) = omega (arith, length-items_in ss, c.loop-low-test.true) in
    record {
      width = r.width;
      wide = c.loop-low.invariant.room.kept r.width r.wide;
      held = record {
        columns = r.held.columns;
        ascends = r.held.ascends;
        few = r.held.few;
        among = (subst (λ (j : Item). AreAmong r.held.columns j.row.terms) (item_read ss k c.low-item.result false_item c.loop-low-test.true c.low-item.is) (among_at r.held.columns (items_in ss) k false_item r.held.among l), r.held.among);
      };
    }

pub loop-low-preserved : goal.loop-low-preserved
loop-low-preserved c =
    let ss = c.args.rows.now in
    let items = items_in ss in
    let k = c.loop-low.low-index in
    let f = is_lower c.args.v in
    let ups = keep (is_upper c.args.v) items in
    let low = item_in c.low-item.result in
    let i = c.loop-low.invariant in
    let ls = keep f (take k items) in
    let ks = keep f (take (k + 1) items) in
    let e = kept_in f ss k c.low-item.result c.loop-low-test.true c.low-item.is (sym c.is_lower.ensures ∙ c.if-not-is_lower.false) in
    let q : c.loop-low.next + length ups ≡ c.args.made + suc (length ls) * length ups = omega (arith, i.number) in
    record {
      within = c.add_uppers-next.ensures.within;
      len = c.add_uppers-next.auto.out ∙ i.len;
      stands = λ is h. subst (λ (js : List Item). Stands js c.add_uppers-next.new.out c.add_uppers-next.new.filled) (more_pairs c.args.made c.loop-low.next c.args.v low ls ks ups is e i.number)
          (c.add_uppers-next.ensures.stands (is ++ pairs c.args.made c.args.v ls ups) (i.stands is h));
      number = c.add_uppers-next.ensures.next ∙ (q ∙ ap (λ m. c.args.made + m * length ups) (sym (length_more ls ks low e)));
      room = keeps_more (c.args.scratch.now ∷ c.args.out.now) (c.loop-low.scratch ∷ c.loop-low.out) (c.add_uppers-next.new.scratch ∷ c.add_uppers-next.new.out) i.room c.add_uppers-next.ensures.room;
    }

pub returns-clause-stands : goal.returns-clause-stands
returns-clause-stands c = λ is h.
    subst (λ (us : List Item). Stands (is ++ pairs c.args.made c.args.v us (keep (is_upper c.args.v) (items_in c.args.rows.now))) c.loop-low.out c.loop-low.filled) (all_kept (is_lower c.args.v) c.args.rows.now c.loop-low.low-index c.loop-low-test.false) (c.loop-low.invariant.stands is h)
