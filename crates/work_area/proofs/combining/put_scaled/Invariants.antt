use Rattle.std.proofs.Common.{◌≡◌, ◌≤◌, ◌++◌, [], drop}
use Rattle.std.specs.Vec.{vec_capacity}
use Rattle.affine_systems.specs.Terms.{add_terms}
use Rattle.work_area.proofs.combining.put_scaled.Given as goal

abbrev pub invariant-loop-t : goal.invariant-loop-t
invariant-loop-t l = record {
  items : l.out.items ++ add_terms l.p (drop l.t-index l.terms) [] ≡ l.fn.out.items ++ add_terms l.fn.p l.fn.terms [];
  room : vec_capacity l.fn.out ≤ vec_capacity l.out;
}
