use Rattle.std.proofs.Common.{◌≡◌, take, drop}
use Rattle.affine_systems.specs.Items.{cut_at}
use Rattle.affine_systems.specs.Eliminate.{is_unit_on}
use Rattle.affine_systems.proofs.PivotSteps.{after}
use Rattle.work_area.specs.Slots.{items_in}
use Rattle.work_area.proofs.substitution.find_unit.Given as goal

abbrev pub invariant-loop-i : goal.invariant-loop-i
invariant-loop-i l = after (take l.i (items_in l.rows)) (cut_at (is_unit_on l.v) (drop l.i (items_in l.rows))) ≡ cut_at (is_unit_on l.fn.v) (items_in l.fn.rows)
