use Rattle.std.proofs.Common.{◌≡◌, ◌≤◌, drop}
use Rattle.std.specs.Prelude.{max, ◌^◌}
use Rattle.affine_systems.specs.Items.{next_made}
use Rattle.work_area.specs.Slots.{items_in}
use Rattle.work_area.proofs.tidying.next_made.Given as goal

abbrev pub invariant-loop-slot : goal.invariant-loop-slot
invariant-loop-slot l = record {
  least : max l.least (next_made (drop l.slot-index (items_in l.rows))) ≡ next_made (items_in l.fn.rows);
  small : l.least ≤ 2 ^ 127;
}
