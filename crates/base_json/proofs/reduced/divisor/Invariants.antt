use Rattle.std.proofs.Common.{◌≡◌, drop}
use Rattle.affine_systems.specs.Normal.{gcd_of}
use Rattle.base_json.proofs.reduced.divisor.Given as goal

abbrev pub invariant-loop-t : goal.invariant-loop-t
invariant-loop-t l = gcd_of (drop l.t-index l.terms) l.g ≡ gcd_of l.fn.terms 0
