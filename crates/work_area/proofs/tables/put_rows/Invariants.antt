use Rattle.std.proofs.Common.{◌≡◌, take, length}
use Rattle.affine_systems.specs.Items.{items_from}
use Rattle.work_area.specs.Slots.{items_in, KeepsRoom}
use Rattle.work_area.proofs.tables.put_rows.Given as goal

abbrev pub invariant-loop-i : goal.invariant-loop-i
invariant-loop-i l = record {
  items : take l.i (items_in l.out) ≡ items_from 0 (take l.i l.fn.rows);
  len : length l.out ≡ length l.fn.out;
  room : KeepsRoom l.fn.out l.out;
}
