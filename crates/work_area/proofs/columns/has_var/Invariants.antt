use Rattle.std.proofs.Common.{◌≡◌, drop}
use Rattle.affine_systems.specs.Places.{has_var}
use Rattle.work_area.proofs.columns.has_var.Given as goal

abbrev pub invariant-loop-t : goal.invariant-loop-t
invariant-loop-t l = has_var l.v (drop l.t-index l.sum) ≡ has_var l.fn.v l.fn.sum
