use Rattle.std.proofs.Common.{◌≡◌, ◌+◌, ◌*◌, ◌≤◌, length}
use Rattle.f77_structure.specs.Order.{all_ordered, nothing_ordered}
use Rattle.f77_structure.proofs.order.order_fault.Given as goal

abbrev pub invariant-loop-rest : goal.invariant-loop-rest
invariant-loop-rest l = record {
  same : all_ordered l.rest l.order ≡ all_ordered l.fn.marks nothing_ordered;
  room : l.order.count + 2 * length l.rest ≤ 2 * length l.fn.marks;
}

abbrev pub decreases-loop-rest : goal.decreases-loop-rest
decreases-loop-rest l = length l.rest
