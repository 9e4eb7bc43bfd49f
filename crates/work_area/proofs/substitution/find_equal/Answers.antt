use Rattle.std.proofs.Common.{◌∙◌, sym, arith}
use Rattle.affine_systems.specs.Eliminate.{is_equal_on}
use Rattle.work_area.proofs.Swaps.{length-items_in}
use Rattle.work_area.proofs.FaceSteps.{small_at}
use Rattle.work_area.proofs.PivotSteps.{cut-here}
use Rattle.work_area.proofs.substitution.find_equal.Goals as goal

pub is_equal_on-requires : goal.is_equal_on-requires
is_equal_on-requires c = small_at c.args.rows.now c.loop-i.i c.index-rows-i.result c.requires c.loop-i-test.true c.index-rows-i.is

pub returns-then-is_equal_on : goal.returns-then-is_equal_on
returns-then-is_equal_on c =
    let ss = c.args.rows.now in (
      omega (arith, c.loop-i-test.true, length-items_in ss),
      sym c.loop-i.invariant ∙ cut-here (is_equal_on c.args.v) ss c.loop-i.i c.index-rows-i.result c.loop-i-test.true c.index-rows-i.is (sym c.is_equal_on.ensures ∙ c.if-is_equal_on.true),
    )
