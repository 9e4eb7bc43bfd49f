use Rattle.std.proofs.Common.{◌∙◌, sym, arith}
use Rattle.affine_systems.specs.Tidy.{is_to_take}
use Rattle.work_area.specs.Slots.{items_in}
use Rattle.work_area.proofs.Swaps.{length-items_in}
use Rattle.work_area.proofs.PivotSteps.{cut-here}
use Rattle.work_area.proofs.pivots.find_pivot.Goals as goal

pub returns-then-is_to_take : goal.returns-then-is_to_take
returns-then-is_to_take c =
    let ss = c.args.rows.now in (
      omega (arith, c.loop-i-test.true, length-items_in ss),
      sym c.loop-i.invariant ∙ cut-here (is_to_take (items_in ss)) ss c.loop-i.i c.index-rows-i.result c.loop-i-test.true c.index-rows-i.is (sym c.is_to_take.ensures ∙ c.if-is_to_take.true),
    )
