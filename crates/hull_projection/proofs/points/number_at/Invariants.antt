use Rattle.std.proofs.Common.{◌≡◌, length}
use Rattle.hull_projection.specs.Coordinates.{point_of}
use Rattle.hull_projection.proofs.points.number_at.Given as goal

abbrev pub invariant-loop-rest : goal.invariant-loop-rest
invariant-loop-rest l = point_of l.rest l.var ≡ point_of l.fn.point l.var

abbrev pub decreases-loop-rest : goal.decreases-loop-rest
decreases-loop-rest l = length l.rest
