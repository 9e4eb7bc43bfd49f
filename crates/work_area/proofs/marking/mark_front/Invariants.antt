use Rattle.std.proofs.Common.{◌≡◌, ◌++◌, take, drop, length}
use Rattle.work_area.specs.Slots.{items_in, KeepsRoom}
use Rattle.hull_projection.specs.Refute.{with_originals}
use Rattle.work_area.proofs.marking.mark_front.Given as goal

abbrev pub invariant-loop-i : goal.invariant-loop-i
invariant-loop-i l = record {
  items : items_in l.rows ≡ with_originals 0 (take l.i (items_in l.fn.rows)) ++ drop l.i (items_in l.fn.rows);
  len : length l.rows ≡ length l.fn.rows;
  room : KeepsRoom l.fn.rows l.rows;
}
