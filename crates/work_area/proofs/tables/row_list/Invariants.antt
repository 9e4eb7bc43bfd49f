use Rattle.std.proofs.Common.{◌≡◌, take}
use Rattle.std.specs.Prelude.{map}
use Rattle.work_area.specs.Slots.{row_in}
use Rattle.work_area.proofs.tables.row_list.Given as goal

abbrev pub invariant-loop-slot : goal.invariant-loop-slot
invariant-loop-slot l = l.out.items ≡ map row_in (take l.slot-index l.rows)
