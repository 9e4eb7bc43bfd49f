use Rattle.std.proofs.Common.{◌≡◌, ◌≤◌, ◌-◌, length, drop}
use Rattle.affine_systems.specs.Given.{ItemsFit}
use Rattle.hull_projection.specs.Refute.{eliminate_all}
use Rattle.hull_projection.proofs.eliminations.eliminate_all.Given as goal

abbrev pub invariant-loop-at : goal.invariant-loop-at
invariant-loop-at l =
    (eliminate_all l.rational l.left (drop l.at l.vars) ≡ eliminate_all l.fn.rational l.fn.left l.fn.vars) × ItemsFit l.rational l.left.items × (l.left.pairs ≤ l.at) × (l.at ≤ length l.vars)

abbrev pub decreases-loop-at : goal.decreases-loop-at
decreases-loop-at l = length l.vars - l.at
