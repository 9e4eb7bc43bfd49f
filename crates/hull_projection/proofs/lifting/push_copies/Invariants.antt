use Rattle.std.proofs.Common.{◌≡◌, ◌++◌, drop}
use Rattle.hull_projection.specs.Hull.{copies}
use Rattle.hull_projection.proofs.lifting.push_copies.Given as goal

abbrev pub invariant-loop-t : goal.invariant-loop-t
invariant-loop-t l = l.out.items ++ copies l.first l.vars (drop l.t-index l.terms) ≡ l.fn.out.items ++ copies l.fn.first l.fn.vars l.fn.terms
