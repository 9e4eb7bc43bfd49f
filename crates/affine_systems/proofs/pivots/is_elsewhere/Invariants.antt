use Rattle.std.proofs.Common.{◌≡◌, ◌+◌, drop}
use Rattle.affine_systems.specs.Tidy.{times}
use Rattle.affine_systems.proofs.PivotSteps.{seen_once}
use Rattle.affine_systems.proofs.pivots.is_elsewhere.Given as goal

abbrev pub invariant-loop-item : goal.invariant-loop-item
invariant-loop-item l = seen_once l.seen + times l.v (drop l.item-index l.items) ≡ times l.fn.v l.fn.items
