use Rattle.std.proofs.Common.{◌≡◌, take, length}
use Rattle.affine_systems.specs.Tidy.{faced_all}
use Rattle.work_area.specs.Slots.{items_in, KeepsRoom}
use Rattle.work_area.proofs.facing.face_all.Given as goal

abbrev pub invariant-loop-i : goal.invariant-loop-i
invariant-loop-i l = record {
  items : take l.i (items_in l.out) ≡ faced_all l.fn.made (take l.i (items_in l.fn.rows)) (items_in l.fn.rows);
  len : length l.out ≡ length l.fn.out;
  room : KeepsRoom l.fn.out l.out;
}
