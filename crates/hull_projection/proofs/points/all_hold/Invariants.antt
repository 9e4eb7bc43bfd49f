use Rattle.std.proofs.Common.{length}
use Rattle.affine_systems.specs.Points.{HoldsAll}
use Rattle.hull_projection.specs.Coordinates.{point_of}
use Rattle.hull_projection.proofs.points.all_hold.Given as goal

abbrev pub invariant-loop-rest : goal.invariant-loop-rest
invariant-loop-rest l = HoldsAll (point_of l.point) l.rest → HoldsAll (point_of l.point) l.fn.rows

abbrev pub decreases-loop-rest : goal.decreases-loop-rest
decreases-loop-rest l = length l.rest
