use Rattle.std.proofs.Common.{◌≡◌, drop}
use Rattle.affine_systems.specs.Eliminate.{every_pair_unit, is_lower, is_upper, keep}
use Rattle.work_area.specs.Slots.{items_in}
use Rattle.work_area.proofs.pairing.every_pair_unit.Given as goal

abbrev pub invariant-loop-slot : goal.invariant-loop-slot
invariant-loop-slot l =
    every_pair_unit l.v (keep (is_lower l.v) (drop l.slot-index (items_in l.rows))) (keep (is_upper l.fn.v) (items_in l.fn.rows)) ≡ every_pair_unit l.fn.v (keep (is_lower l.fn.v) (items_in l.fn.rows)) (keep (is_upper l.fn.v) (items_in l.fn.rows))
