use Rattle.std.proofs.Common.{◌≡◌, ◌≤◌, length, take}
use Rattle.affine_systems.specs.Eliminate.{is_without, keep}
use Rattle.work_area.specs.Slots.{items_in, KeepsRoom}
use Rattle.work_area.proofs.pairing.copy_without.Given as goal

abbrev pub invariant-loop-slot : goal.invariant-loop-slot
invariant-loop-slot l = record {
  few : l.kept ≤ l.slot-index;
  items : take l.kept (items_in l.out) ≡ keep (is_without l.fn.v) (take l.slot-index (items_in l.fn.rows));
  len : length l.out ≡ length l.fn.out;
  room : KeepsRoom l.fn.out l.out;
}
