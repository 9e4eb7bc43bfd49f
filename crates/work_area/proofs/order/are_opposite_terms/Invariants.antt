use Rattle.std.proofs.Common.{◌≡◌, drop}
use Rattle.affine_systems.specs.Terms.{are_opposite_terms}
use Rattle.work_area.proofs.order.are_opposite_terms.Given as goal

abbrev pub invariant-loop-i : goal.invariant-loop-i
invariant-loop-i l = are_opposite_terms (drop l.i l.ts) (drop l.i l.us) ≡ are_opposite_terms l.fn.ts l.fn.us
