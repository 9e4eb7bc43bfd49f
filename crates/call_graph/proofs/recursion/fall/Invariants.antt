use Rattle.std.proofs.Common.{◌≡◌, ◌+◌, ◌≤◌, length}
use Rattle.call_graph.specs.Tables.{fall_from}
use Rattle.call_graph.specs.Modules.{most_modules}
use Rattle.call_graph.proofs.recursion.fall.Given as goal

abbrev pub invariant-loop-rest : goal.invariant-loop-rest
invariant-loop-rest l = record {
  same : fall_from l.ranks l.place l.rest ≡ fall_from l.ranks 0 l.fn.callees;
  room : l.place + length l.rest ≤ most_modules;
}

abbrev pub decreases-loop-rest : goal.decreases-loop-rest
decreases-loop-rest l = length l.rest
