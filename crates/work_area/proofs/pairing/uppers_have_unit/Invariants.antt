use Rattle.std.proofs.Common.{◌≡◌, drop}
use Rattle.affine_systems.specs.Eliminate.{all_have_unit, is_upper, keep}
use Rattle.work_area.specs.Slots.{items_in}
use Rattle.work_area.proofs.pairing.uppers_have_unit.Given as goal

abbrev pub invariant-loop-slot : goal.invariant-loop-slot
invariant-loop-slot l = all_have_unit l.v (keep (is_upper l.v) (drop l.slot-index (items_in l.rows))) ≡ all_have_unit l.fn.v (keep (is_upper l.fn.v) (items_in l.fn.rows))
