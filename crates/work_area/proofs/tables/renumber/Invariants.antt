use Rattle.std.proofs.Common.{◌≡◌, ◌++◌, take, drop, length}
use Rattle.affine_systems.specs.Items.{items_from, rows_of}
use Rattle.work_area.specs.Slots.{items_in, KeepsRoom}
use Rattle.work_area.proofs.tables.renumber.Given as goal

abbrev pub invariant-loop-i : goal.invariant-loop-i
invariant-loop-i l = record {
  items : items_in l.rows ≡ items_from 0 (rows_of (take l.i (items_in l.fn.rows))) ++ drop l.i (items_in l.fn.rows);
  len : length l.rows ≡ length l.fn.rows;
  room : KeepsRoom l.fn.rows l.rows;
}
