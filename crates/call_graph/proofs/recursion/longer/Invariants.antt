use Rattle.std.proofs.Common.{◌≡◌, ◌+◌, ◌≤◌, ◌++◌, length}
use Rattle.call_graph.specs.Tables.{rows_from, longer}
use Rattle.call_graph.specs.Modules.{most_modules}
use Rattle.call_graph.proofs.recursion.longer.Given as goal

abbrev pub invariant-loop-rest : goal.invariant-loop-rest
invariant-loop-rest l = record {
  same : l.rows ++ rows_from l.table l.size l.from l.rest ≡ longer l.fn.callees l.table;
  room : l.from + length l.rest ≤ most_modules;
}

abbrev pub decreases-loop-rest : goal.decreases-loop-rest
decreases-loop-rest l = length l.rest
