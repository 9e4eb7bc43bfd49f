use Rattle.work_area.proofs.FaceSteps.{small_at}
use Rattle.work_area.proofs.substitution.any_has.Goals as goal

pub occurs-requires : goal.occurs-requires
occurs-requires c = small_at c.args.rows.now c.loop-slot.slot-index c.slot-item.result c.requires c.loop-slot-test.true c.slot-item.is
