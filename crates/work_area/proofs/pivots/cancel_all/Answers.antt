use Rattle.std.proofs.Common.{◌≡◌, ◌∙◌, ◌<◌, ◌+◌, ◌∷◌, length, get_or, set, sym, ap, subst, arith}
use Rattle.std.proofs.lemmas.List.{length-set}
use Rattle.affine_systems.specs.Items.{false_item}
use Rattle.affine_systems.specs.declared.items.Item.{Item}
use Rattle.affine_systems.specs.Eliminate.{cancel_variable}
use Rattle.affine_systems.proofs.PivotSteps.{cancelled-read, cancelled-more, small_rest}
use Rattle.affine_systems.specs.Given.{IsSmallRow}
use Rattle.work_area.specs.Slots.{item_in, items_in}
use Rattle.work_area.specs.Columns.{AreAmong}
use Rattle.work_area.proofs.Swaps.{item_at, items_in-set, length-items_in, keeps_more, keeps_one, one_has}
use Rattle.work_area.proofs.ColumnLaws.{among_at}
use Rattle.work_area.proofs.pivots.cancel_all.Goals as goal

pub cancel-requires-clause-one : goal.cancel-requires-clause-one
cancel-requires-clause-one c =
    let ss = c.args.rows.now in
    let l : c.loop-i.i < length (items_in ss) = omega (arith, length-items_in ss, c.loop-i-test.true) in
    subst (λ (j : Item). IsSmallRow j.row) (item_at c.loop-i.rows c.loop-i.i c.index-rows-i.result false_item (omega (arith, c.loop-i-test.true, c.loop-i.invariant.len)))
    (small_rest c.args.made (item_in c.args.by.now) c.args.v (items_in ss) (items_in c.loop-i.rows) c.loop-i.i c.requires.each l c.loop-i.invariant.items false_item)

pub cancel-requires-clause-roomy : goal.cancel-requires-clause-roomy
cancel-requires-clause-roomy c =
    let ss = c.args.rows.now in
    let r = c.requires.roomy in
    let i = c.loop-i.i in
    let l : i < length (items_in ss) = omega (arith, length-items_in ss, c.loop-i-test.true) in
    let e : get_or (items_in ss) i false_item ≡ item_in (get_or c.loop-i.rows i c.index-rows-i.result)
    = sym (cancelled-read c.args.made (item_in c.args.by.now) c.args.v (items_in ss) (items_in c.loop-i.rows) i l c.loop-i.invariant.items false_item)
    ∙ item_at c.loop-i.rows i c.index-rows-i.result false_item (omega (arith, c.loop-i-test.true, c.loop-i.invariant.len)) in
    record {
      width = r.width;
      wide = one_has r.width c.loop-i.scratch (c.loop-i.invariant.room.kept r.width r.wide 0 c.loop-i.scratch (omega arith));
      held = record {
        columns = r.held.columns;
        ascends = r.held.ascends;
        few = r.held.few;
        among = (subst (λ (j : Item). AreAmong r.held.columns j.row.terms) e (among_at r.held.columns (items_in ss) i false_item r.held.among.1 l), (r.held.among.0, tt));
      };
    }

pub loop-i-preserved : goal.loop-i-preserved
loop-i-preserved c =
    let ss = c.args.rows.now in
    let i = c.loop-i.i in
    let by = item_in c.args.by.now in
    let l : i < length (items_in ss) = omega (arith, length-items_in ss, c.loop-i-test.true) in
    let m : i < length c.loop-i.rows = omega (arith, c.loop-i-test.true, c.loop-i.invariant.len) in
    record {
      items = items_in-set c.loop-i.rows i c.cancel.new.slot
          ∙ (ap (set (items_in c.loop-i.rows) i) (c.cancel.ensures.item ∙ ap (cancel_variable (c.args.made + i) by c.args.v) (sym (item_at c.loop-i.rows i c.index-rows-i.result false_item m)))
          ∙ cancelled-more c.args.made by c.args.v (items_in ss) (items_in c.loop-i.rows) i l c.loop-i.invariant.items false_item);
      len = length-set c.loop-i.rows i c.cancel.new.slot ∙ c.loop-i.invariant.len;
      room = keeps_more (c.args.scratch.now ∷ ss) (c.loop-i.scratch ∷ c.loop-i.rows) (c.cancel.new.scratch ∷ set c.loop-i.rows i c.cancel.new.slot) c.loop-i.invariant.room
          (keeps_one c.loop-i.scratch c.loop-i.rows i c.cancel.new.scratch c.cancel.new.slot c.index-rows-i.result m c.cancel.ensures.room);
    }
