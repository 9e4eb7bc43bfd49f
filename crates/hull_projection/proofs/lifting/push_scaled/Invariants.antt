use Rattle.std.proofs.Common.{◌≡◌, ◌++◌, map, take}
use Rattle.hull_projection.specs.Hull.{scale}
use Rattle.hull_projection.proofs.lifting.push_scaled.Given as goal

abbrev pub invariant-loop-row : goal.invariant-loop-row
invariant-loop-row l = l.out.items ≡ l.fn.out.items ++ map (scale l.first l.vars) (take l.row-index l.rows)
