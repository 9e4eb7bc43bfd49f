use Rattle.std.proofs.Common.{◌∙◌, ◌<◌, length, set, sym, ap, arith, refl}
use Rattle.std.proofs.lemmas.List.{length-set}
use Rattle.affine_systems.specs.Items.{false_item, item, no_originals}
use Rattle.work_area.specs.Slots.{items_in}
use Rattle.work_area.proofs.Swaps.{items_in-set, item_at, length-items_in, keeps_more, keeps_set}
use Rattle.work_area.proofs.LoadSteps.{number_more, number_end}
use Rattle.work_area.proofs.tables.renumber.Goals as goal

pub loop-i-preserved : goal.loop-i-preserved
loop-i-preserved c =
    let i = c.loop-i.i in
    let ss = c.loop-i.rows in
    let old = items_in c.args.rows.now in
    let new = c.number.new.self in
    let l : i < length ss = omega (arith, c.loop-i-test.true, c.loop-i.invariant.len) in
    record {
      items = number_more old (items_in ss) (items_in (set ss i new)) i false_item (omega (arith, length-items_in c.args.rows.now, c.loop-i-test.true))
          (items_in-set ss i new ∙ ap (set (items_in ss) i) (c.number.ensures.item ∙ ap (λ j. item j.row no_originals i) (sym (item_at ss i c.index-rows-i.result false_item l)))) c.loop-i.invariant.items;
      len = length-set ss i new ∙ c.loop-i.invariant.len;
      room = keeps_more c.args.rows.now ss (set ss i new) c.loop-i.invariant.room (keeps_set ss (set ss i new) i new c.index-rows-i.result l c.number.ensures.room refl);
    }

pub returns-clause-items : goal.returns-clause-items
returns-clause-items c = number_end (items_in c.args.rows.now) (items_in c.loop-i.rows) c.loop-i.i (omega (arith, length-items_in c.args.rows.now, c.loop-i-test.false)) c.loop-i.invariant.items
