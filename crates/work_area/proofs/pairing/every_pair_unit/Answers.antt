use Rattle.work_area.proofs.FaceSteps.{small_at}
use Rattle.work_area.proofs.pairing.every_pair_unit.Goals as goal

pub is_lower-requires : goal.is_lower-requires
is_lower-requires c = small_at c.args.rows.now c.loop-slot.slot-index c.slot-item.result c.requires c.loop-slot-test.true c.slot-item.is

pub has_unit-requires : goal.has_unit-requires
has_unit-requires c = small_at c.args.rows.now c.loop-slot.slot-index c.slot-item.result c.requires c.loop-slot-test.true c.slot-item.is
