use Rattle.std.proofs.Common.{◌≡◌, ◌≤◌, take, drop, length}
use Rattle.work_area.specs.Slots.{items_in, KeepsRoom}
use Rattle.hull_projection.specs.Refute.{with_few}
use Rattle.work_area.proofs.marking.few_front.Given as goal

abbrev pub invariant-loop-i : goal.invariant-loop-i
invariant-loop-i l = record {
  before : l.kept ≤ l.i;
  items : take l.kept (items_in l.rows) ≡ with_few l.fn.pairs (take l.i (items_in l.fn.rows));
  rest : drop l.i (items_in l.rows) ≡ drop l.i (items_in l.fn.rows);
  len : length l.rows ≡ length l.fn.rows;
  room : KeepsRoom l.fn.rows l.rows;
}
