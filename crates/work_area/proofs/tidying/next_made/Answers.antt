use Rattle.std.proofs.Common.{◌∙◌, ◌^◌, ◌+◌, drop, ap, arith}
use Rattle.std.specs.Prelude.{max}
use Rattle.affine_systems.specs.Items.{next_made as made_from}
use Rattle.work_area.specs.Slots.{items_in}
use Rattle.work_area.proofs.MadeLaws.{made-read, next-more}
use Rattle.work_area.proofs.tidying.next_made.Goals as goal

pub overflow_add-slot : goal.overflow_add-slot
overflow_add-slot c =
    let h = made-read (2 ^ 127) c.args.rows.now c.loop-slot.slot-index c.slot-item.result c.requires c.loop-slot-test.true c.slot-item.is in
    omega (arith, h)

pub loop-slot-preserved : goal.loop-slot-preserved
loop-slot-preserved c =
    let h = made-read (2 ^ 127) c.args.rows.now c.loop-slot.slot-index c.slot-item.result c.requires c.loop-slot-test.true c.slot-item.is in
    let e = next-more c.args.rows.now c.loop-slot.slot-index c.loop-slot.least c.slot-item.result c.loop-slot-test.true c.slot-item.is in
    record { least = ap (λ m. max m (made_from (drop (c.loop-slot.slot-index + 1) (items_in c.args.rows.now)))) c.max-least.ensures ∙ (e ∙ c.loop-slot.invariant.least); small = omega (arith, h, c.max-least.ensures, c.loop-slot.invariant.small) }
