use Rattle.std.proofs.Common.{◌≡◌, drop}
use Rattle.affine_systems.specs.Eliminate.{any_has}
use Rattle.work_area.specs.Slots.{items_in}
use Rattle.work_area.proofs.substitution.any_has.Given as goal

abbrev pub invariant-loop-slot : goal.invariant-loop-slot
invariant-loop-slot l = any_has l.v (drop l.slot-index (items_in l.rows)) ≡ any_has l.fn.v (items_in l.fn.rows)
