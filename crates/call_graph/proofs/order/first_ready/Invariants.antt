use Rattle.std.proofs.Common.{◌≡◌, ◌+◌, ◌≤◌, length}
use Rattle.call_graph.specs.Order.{first_ready}
use Rattle.call_graph.specs.Modules.{most_modules}
use Rattle.call_graph.proofs.order.first_ready.Given as goal

abbrev pub invariant-loop-rest : goal.invariant-loop-rest
invariant-loop-rest l = record {
  same : first_ready l.place l.rest l.order ≡ first_ready 0 l.fn.callees l.order;
  room : l.place + length l.rest ≤ most_modules;
}

abbrev pub decreases-loop-rest : goal.decreases-loop-rest
decreases-loop-rest l = length l.rest
