use Rattle.std.proofs.Common.{◌+◌, ◌-◌, ◌≤◌, length}
use Rattle.std.specs.Vec.{vec_capacity}
use Rattle.affine_systems.specs.Rows.{combined_terms}
use Rattle.affine_systems.proofs.Merges.{IsMerged}
use Rattle.work_area.proofs.combining.put_combination.Given as goal

abbrev pub invariant-loop-i : goal.invariant-loop-i
invariant-loop-i l = record {
  merged : IsMerged l.out.items l.p l.ts l.i l.q l.us l.j (combined_terms l.fn.p l.fn.ts l.fn.q l.fn.us);
  room : vec_capacity l.fn.out ≤ vec_capacity l.out;
}

abbrev pub decreases-loop-i : goal.decreases-loop-i
decreases-loop-i l = (length l.ts - l.i) + (length l.us - l.j)
