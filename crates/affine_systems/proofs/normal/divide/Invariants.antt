use Rattle.std.proofs.Common.{◌≡◌, ◌++◌, take, drop}
use Rattle.affine_systems.specs.Normal.{divided}
use Rattle.affine_systems.proofs.normal.divide.Given as goal

abbrev pub invariant-loop-i : goal.invariant-loop-i
invariant-loop-i l = l.terms ≡ divided l.g (take l.i l.fn.terms) ++ drop l.i l.fn.terms
