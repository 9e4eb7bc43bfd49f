use Rattle.std.proofs.Common.{◌≡◌, ◌≤◌, ◌-◌, length, drop}
use Rattle.affine_systems.specs.Given.{Fits}
use Rattle.hull_projection.specs.Project.{eliminate_each}
use Rattle.hull_projection.proofs.projection.eliminate_each.Given as goal

abbrev pub invariant-loop-at : goal.invariant-loop-at
invariant-loop-at l = (eliminate_each l.s (drop l.at l.vars) ≡ eliminate_each l.fn.s l.fn.vars) × Fits l.s.system × (l.at ≤ length l.vars)

abbrev pub decreases-loop-at : goal.decreases-loop-at
decreases-loop-at l = length l.vars - l.at
