use Rattle.std.proofs.Common.{◌≡◌, ◌≤◌, ◌++◌, take, drop}
use Rattle.std.specs.Vec.{vec_capacity}
use Rattle.affine_systems.specs.Terms.{negated_terms}
use Rattle.work_area.proofs.normal.negate.Given as goal

abbrev pub invariant-loop-i : goal.invariant-loop-i
invariant-loop-i l = record {
  items : l.terms.items ≡ negated_terms (take l.i l.fn.terms.items) ++ drop l.i l.fn.terms.items;
  room : vec_capacity l.fn.terms ≤ vec_capacity l.terms;
}
