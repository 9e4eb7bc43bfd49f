use Rattle.std.proofs.Common.{◌≡◌}
use Rattle.affine_systems.proofs.PivotSteps.{cancelled_to}
use Rattle.affine_systems.proofs.pivots.cancel_all.Given as goal

abbrev pub invariant-loop-i : goal.invariant-loop-i
invariant-loop-i l = l.items.items ≡ cancelled_to l.made l.by l.v l.fn.items.items l.i
