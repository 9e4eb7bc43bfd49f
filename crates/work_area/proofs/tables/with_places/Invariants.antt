use Rattle.std.proofs.Common.{◌≤◌, ◌-◌, vec_len}
use Rattle.work_area.specs.Slots.{HaveRoom}
use Rattle.work_area.proofs.tables.with_places.Given as goal

abbrev pub invariant-loop-alloc : goal.invariant-loop-alloc
invariant-loop-alloc l = record {
  within : vec_len l.out ≤ 512;
  room : HaveRoom l.fn.columns l.out.items;
}

abbrev pub decreases-loop-alloc : goal.decreases-loop-alloc
decreases-loop-alloc l = 512 - vec_len l.out
