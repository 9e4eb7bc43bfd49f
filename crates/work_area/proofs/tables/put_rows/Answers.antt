use Rattle.std.proofs.Common.{◌∙◌, ◌≤◌, ◌<◌, length, set, sym, ap, subst, arith, refl}
use Rattle.std.proofs.lemmas.List.{length-set}
use Rattle.affine_systems.specs.Items.{item, no_originals}
use Rattle.affine_systems.specs.declared.row.Row.{Row}
use Rattle.work_area.specs.Slots.{items_in}
use Rattle.work_area.proofs.Swaps.{items_in-set, length-items_in, keeps_more, keeps_set}
use Rattle.work_area.proofs.LoadSteps.{put_more}
use Rattle.work_area.proofs.tables.put_rows.Goals as goal

pub put_row-requires : goal.put_row-requires
put_row-requires c =
    let w = c.loop-i.invariant.room.kept c.requires.fit.width c.requires.fit.wide c.loop-i.i c.index-out-i.result (omega (arith, c.loop-i-test.true, c.requires.places, c.loop-i.invariant.len)) in
    let s : length c.index-rows-i.result.terms ≤ c.requires.fit.width
    = subst (λ (r : Row). length r.terms ≤ c.requires.fit.width) (sym c.index-rows-i.is) (c.requires.fit.short c.loop-i.i c.index-rows-i.result c.loop-i-test.true) in
    omega (arith, w, s)

pub loop-i-preserved : goal.loop-i-preserved
loop-i-preserved c =
    let i = c.loop-i.i in
    let out = c.loop-i.out in
    let new = c.put_row.new.self in
    let l : i < length out = omega (arith, c.loop-i-test.true, c.requires.places, c.loop-i.invariant.len) in
    record {
      items = put_more c.args.rows.now (items_in out) (items_in (set out i new)) i c.index-rows-i.result c.loop-i-test.true (omega (arith, length-items_in out, l))
          (items_in-set out i new ∙ ap (set (items_in out) i) (c.put_row.ensures.item ∙ ap (λ (r : Row). item r no_originals i) c.index-rows-i.is)) c.loop-i.invariant.items;
      len = length-set out i new ∙ c.loop-i.invariant.len;
      room = keeps_more c.args.out.now out (set out i new) c.loop-i.invariant.room (keeps_set out (set out i new) i new c.index-out-i.result l c.put_row.ensures.room refl);
    }
