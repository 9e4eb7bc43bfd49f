use Rattle.std.proofs.Common.{◌≡◌, ◌≤◌, drop}
use Rattle.std.specs.Vec.{vec_len, vec_capacity}
use Rattle.work_area.specs.Columns.{noted_terms}
use Rattle.work_area.proofs.columns.note_terms.Given as goal

abbrev pub invariant-loop-t : goal.invariant-loop-t
invariant-loop-t l = record {
  notes : noted_terms l.sum.items (drop l.t-index l.terms) ≡ noted_terms l.fn.sum.items l.fn.terms;
  room : vec_capacity l.fn.sum ≤ vec_capacity l.sum;
  few : vec_len l.sum ≤ l.fn.limit;
}
