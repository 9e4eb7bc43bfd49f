use Rattle.work_area.proofs.FaceSteps.{small_at}
use Rattle.work_area.proofs.pairing.uppers_have_unit.Goals as goal

pub is_upper-requires : goal.is_upper-requires
is_upper-requires c = small_at c.args.rows.now c.loop-slot.slot-index c.slot-item.result c.requires c.loop-slot-test.true c.slot-item.is

pub has_unit-requires : goal.has_unit-requires
has_unit-requires c = small_at c.args.rows.now c.loop-slot.slot-index c.slot-item.result c.requires c.loop-slot-test.true c.slot-item.is
