use Rattle.std.proofs.Common.{◌≡◌, ◌+ℤ◌, length}
use Rattle.affine_systems.specs.Points.{value}
use Rattle.hull_projection.specs.Coordinates.{point_of}
use Rattle.hull_projection.proofs.points.sum_at.Given as goal

abbrev pub invariant-loop-rest : goal.invariant-loop-rest
invariant-loop-rest l = l.sum +ℤ value (point_of l.point) l.rest ≡ value (point_of l.point) l.fn.terms

abbrev pub decreases-loop-rest : goal.decreases-loop-rest
decreases-loop-rest l = length l.rest
