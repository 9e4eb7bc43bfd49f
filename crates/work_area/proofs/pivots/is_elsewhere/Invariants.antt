use Rattle.std.proofs.Common.{◌≡◌, ◌+◌, drop}
use Rattle.affine_systems.specs.Tidy.{times}
use Rattle.affine_systems.proofs.PivotSteps.{seen_once}
use Rattle.work_area.specs.Slots.{items_in}
use Rattle.work_area.proofs.pivots.is_elsewhere.Given as goal

abbrev pub invariant-loop-slot : goal.invariant-loop-slot
invariant-loop-slot l = seen_once l.seen + times l.v (drop l.slot-index (items_in l.rows)) ≡ times l.fn.v (items_in l.fn.rows)
