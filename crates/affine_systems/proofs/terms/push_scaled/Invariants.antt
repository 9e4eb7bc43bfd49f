use Rattle.std.proofs.Common.{◌≡◌, ◌++◌, [], drop}
use Rattle.affine_systems.specs.Terms.{add_terms}
use Rattle.affine_systems.proofs.terms.push_scaled.Given as goal

abbrev pub invariant-loop-t : goal.invariant-loop-t
invariant-loop-t l = l.out.items ++ add_terms l.p (drop l.t-index l.terms) [] ≡ l.fn.out.items ++ add_terms l.fn.p l.fn.terms []
