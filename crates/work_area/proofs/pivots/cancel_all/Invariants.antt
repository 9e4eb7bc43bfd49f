use Rattle.std.proofs.Common.{◌≡◌, ◌∷◌, length}
use Rattle.affine_systems.proofs.PivotSteps.{cancelled_to}
use Rattle.work_area.specs.Slots.{item_in, items_in, KeepsRoom}
use Rattle.work_area.proofs.pivots.cancel_all.Given as goal

abbrev pub invariant-loop-i : goal.invariant-loop-i
invariant-loop-i l = record {
  items : items_in l.rows ≡ cancelled_to l.fn.made (item_in l.fn.by) l.fn.v (items_in l.fn.rows) l.i;
  len : length l.rows ≡ length l.fn.rows;
  room : KeepsRoom (l.fn.scratch ∷ l.fn.rows) (l.scratch ∷ l.rows);
}
