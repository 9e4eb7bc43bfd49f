use Rattle.std.proofs.Common.{◌≡◌, drop}
use Rattle.affine_systems.specs.Normal.{gcd_of}
use Rattle.work_area.proofs.normal.divisor.Given as goal

abbrev pub invariant-loop-t : goal.invariant-loop-t
invariant-loop-t l = gcd_of (drop l.t-index l.terms) l.g ≡ gcd_of l.fn.terms l.fn.start
