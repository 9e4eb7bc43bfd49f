use Rattle.std.proofs.Common.{◌≡◌, ◌≤◌, [], drop}
use Rattle.std.specs.Vec.{vec_len, vec_capacity}
use Rattle.affine_systems.specs.Items.{rows_of}
use Rattle.work_area.specs.Slots.{items_in}
use Rattle.work_area.specs.Columns.{noted_rows}
use Rattle.work_area.proofs.noting.note_slots.Given as goal

abbrev pub invariant-loop-slot : goal.invariant-loop-slot
invariant-loop-slot l = record {
  notes : noted_rows l.sum.items (drop l.slot-index (rows_of (items_in l.rows))) ≡ noted_rows [] (rows_of (items_in l.fn.rows));
  room : vec_capacity l.fn.sum ≤ vec_capacity l.sum;
  few : vec_len l.sum ≤ l.fn.limit;
}
