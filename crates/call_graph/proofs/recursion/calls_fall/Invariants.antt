use Rattle.std.proofs.Common.{◌≡◌, ◌+◌, ◌≤◌, length}
use Rattle.call_graph.specs.Tables.{calls_fall}
use Rattle.call_graph.specs.Modules.{most_modules}
use Rattle.call_graph.proofs.recursion.calls_fall.Given as goal

abbrev pub invariant-loop-rest : goal.invariant-loop-rest
invariant-loop-rest l = record {
  same : calls_fall l.ranks l.place l.names l.rest ≡ calls_fall l.ranks 0 l.names l.fn.calls;
  room : l.place + length l.rest ≤ most_modules;
}

abbrev pub decreases-loop-rest : goal.decreases-loop-rest
decreases-loop-rest l = length l.rest
