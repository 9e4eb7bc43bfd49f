use Rattle.std.proofs.Common.{◌∙◌, ◌<◌, length, set, sym, ap, arith, refl}
use Rattle.std.proofs.lemmas.List.{length-set}
use Rattle.affine_systems.specs.Items.{false_item}
use Rattle.work_area.specs.Slots.{items_in}
use Rattle.work_area.proofs.Swaps.{items_in-set, item_at, length-items_in, keeps_more, keeps_set}
use Rattle.hull_projection.specs.Refute.{as_original}
use Rattle.work_area.proofs.RefuteSteps.{mark_more, mark_end}
use Rattle.work_area.proofs.marking.mark_front.Goals as goal

pub loop-i-preserved : goal.loop-i-preserved
loop-i-preserved c =
    let i = c.loop-i.i in
    let ss = c.loop-i.rows in
    let old = items_in c.args.rows.now in
    let new = c.mark.new.slot in
    let l : i < length ss = omega (arith, c.loop-i-test.true, c.requires.len, c.loop-i.invariant.len) in
    record {
      items = mark_more old (items_in ss) (items_in (set ss i new)) i false_item (omega (arith, length-items_in c.args.rows.now, c.loop-i-test.true, c.requires.len))
          (items_in-set ss i new ∙ ap (set (items_in ss) i) (c.mark.ensures.item ∙ ap (as_original i) (sym (item_at ss i c.index-rows-i.result false_item l)))) c.loop-i.invariant.items;
      len = length-set ss i new ∙ c.loop-i.invariant.len;
      room = keeps_more c.args.rows.now ss (set ss i new) c.loop-i.invariant.room (keeps_set ss (set ss i new) i new c.index-rows-i.result l c.mark.ensures.room refl);
    }

pub returns-clause-items : goal.returns-clause-items
returns-clause-items c =
    mark_end (items_in c.args.rows.now) (items_in c.loop-i.rows) c.loop-i.i c.args.len (omega arith) (omega (arith, length-items_in c.args.rows.now, c.requires.len)) c.loop-i.invariant.items
