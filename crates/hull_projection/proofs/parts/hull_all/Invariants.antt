use Rattle.std.proofs.Common.{◌≡◌, drop}
use Rattle.affine_systems.specs.Given.{Fits}
use Rattle.hull_projection.specs.Minus.{hull_all}
use Rattle.hull_projection.proofs.parts.hull_all.Given as goal

abbrev pub invariant-loop-sys : goal.invariant-loop-sys
invariant-loop-sys l = (hull_all l.result (drop l.sys-index l.more) ≡ hull_all l.fn.first l.fn.more) × Fits l.result
