use Rattle.std.proofs.Common.{◌≡◌, ◌++◌, drop}
use Rattle.affine_systems.specs.Terms.{negated_terms}
use Rattle.hull_projection.proofs.entailment.negated_terms.Given as goal

abbrev pub invariant-loop-t : goal.invariant-loop-t
invariant-loop-t l = l.out.items ++ negated_terms (drop l.t-index l.terms) ≡ negated_terms l.fn.terms
