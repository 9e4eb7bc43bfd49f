use Rattle.std.proofs.Common.{◌≡◌, take, drop}
use Rattle.affine_systems.specs.Items.{cut_at}
use Rattle.affine_systems.specs.Tidy.{is_to_take}
use Rattle.affine_systems.proofs.PivotSteps.{after}
use Rattle.affine_systems.proofs.pivots.find_pivot.Given as goal

abbrev pub invariant-loop-i : goal.invariant-loop-i
invariant-loop-i l = after (take l.i l.items) (cut_at (is_to_take l.items) (drop l.i l.items)) ≡ cut_at (is_to_take l.fn.items) l.fn.items
