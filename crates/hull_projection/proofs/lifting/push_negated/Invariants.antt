use Rattle.std.proofs.Common.{◌≡◌, ◌++◌, drop}
use Rattle.hull_projection.specs.Hull.{negated_copies}
use Rattle.hull_projection.proofs.lifting.push_negated.Given as goal

abbrev pub invariant-loop-t : goal.invariant-loop-t
invariant-loop-t l = l.out.items ++ negated_copies l.first l.vars (drop l.t-index l.terms) ≡ l.fn.out.items ++ negated_copies l.fn.first l.fn.vars l.fn.terms
