use Rattle.std.proofs.Common.{◌≡◌, drop}
use Rattle.affine_systems.specs.Points.{factor_of}
use Rattle.affine_systems.proofs.terms.factor_of.Given as goal

abbrev pub invariant-loop-t : goal.invariant-loop-t
invariant-loop-t l = factor_of l.v (drop l.t-index l.terms) ≡ factor_of l.fn.v l.fn.terms
