use Rattle.std.proofs.Common.{◌≡◌, take, drop}
use Rattle.affine_systems.specs.Items.{cut_at}
use Rattle.affine_systems.specs.Tidy.{is_to_take}
use Rattle.affine_systems.proofs.PivotSteps.{after}
use Rattle.work_area.specs.Slots.{items_in}
use Rattle.work_area.proofs.pivots.find_pivot.Given as goal

abbrev pub invariant-loop-i : goal.invariant-loop-i
invariant-loop-i l = after (take l.i (items_in l.rows)) (cut_at (is_to_take (items_in l.rows)) (drop l.i (items_in l.rows))) ≡ cut_at (is_to_take (items_in l.fn.rows)) (items_in l.fn.rows)
