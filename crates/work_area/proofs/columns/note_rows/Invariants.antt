use Rattle.std.proofs.Common.{◌≡◌, ◌≤◌, drop}
use Rattle.std.specs.Vec.{vec_len, vec_capacity}
use Rattle.work_area.specs.Columns.{noted_rows}
use Rattle.work_area.proofs.columns.note_rows.Given as goal

abbrev pub invariant-loop-row : goal.invariant-loop-row
invariant-loop-row l = record {
  notes : noted_rows l.sum.items (drop l.row-index l.rows) ≡ noted_rows l.fn.sum.items l.fn.rows;
  room : vec_capacity l.fn.sum ≤ vec_capacity l.sum;
  few : vec_len l.sum ≤ l.fn.limit;
}
