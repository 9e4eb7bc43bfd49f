use Rattle.std.proofs.Common.{◌≡◌, ◌++◌, take, drop}
use Rattle.affine_systems.specs.Terms.{negated_terms}
use Rattle.affine_systems.proofs.normal.negate.Given as goal

abbrev pub invariant-loop-i : goal.invariant-loop-i
invariant-loop-i l = l.terms ≡ negated_terms (take l.i l.fn.terms) ++ drop l.i l.fn.terms
