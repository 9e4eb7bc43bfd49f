use Rattle.std.proofs.Common.{◌≡◌, drop}
use Rattle.affine_systems.specs.Tidy.{face_opposite}
use Rattle.work_area.specs.Slots.{item_in, items_in}
use Rattle.work_area.proofs.facing.put_facing.Given as goal

abbrev pub invariant-loop-other : goal.invariant-loop-other
invariant-loop-other l = record {
  items : face_opposite l.made (item_in l.slot) (drop l.other-index (items_in l.rows)) ≡ face_opposite l.fn.made (item_in l.fn.slot) (items_in l.fn.rows);
  same : l.out ≡ l.fn.out;
}
