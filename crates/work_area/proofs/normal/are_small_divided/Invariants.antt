use Rattle.std.proofs.Common.{◌≡◌, drop}
use Rattle.affine_systems.specs.Normal.{are_small, divided}
use Rattle.work_area.proofs.normal.are_small_divided.Given as goal

abbrev pub invariant-loop-t : goal.invariant-loop-t
invariant-loop-t l = are_small (divided l.g (drop l.t-index l.terms)) ≡ are_small (divided l.g l.fn.terms)
