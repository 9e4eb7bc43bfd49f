use Rattle.std.proofs.Common.{◌≡◌, ◌≤◌, false, take, drop, length}
use Rattle.affine_systems.specs.Tidy.{normal_items, any_too_big}
use Rattle.work_area.specs.Slots.{items_in, KeepsRoom}
use Rattle.work_area.proofs.forming.normal_rows.Given as goal

abbrev pub invariant-loop-i : goal.invariant-loop-i
invariant-loop-i l = record {
  before : l.kept ≤ l.i;
  items : take l.kept (items_in l.rows) ≡ normal_items false (take l.i (items_in l.fn.rows));
  lost : l.lost ≡ any_too_big false (take l.i (items_in l.fn.rows));
  rest : drop l.i (items_in l.rows) ≡ drop l.i (items_in l.fn.rows);
  len : length l.rows ≡ length l.fn.rows;
  room : KeepsRoom l.fn.rows l.rows;
}
