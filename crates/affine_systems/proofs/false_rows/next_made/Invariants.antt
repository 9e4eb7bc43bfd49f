use Rattle.std.proofs.Common.{◌≡◌, max, drop}
use Rattle.affine_systems.specs.Items.{next_made}
use Rattle.affine_systems.proofs.false_rows.next_made.Given as goal

abbrev pub invariant-loop-item : goal.invariant-loop-item
invariant-loop-item l = max l.least (next_made (drop l.item-index l.items)) ≡ next_made l.fn.items
