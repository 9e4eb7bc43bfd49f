use Rattle.std.proofs.Common.{◌≡◌, ◌-◌, ◌++◌}
use Rattle.call_graph.specs.Tables.{row_from}
use Rattle.call_graph.proofs.recursion.longer_row.Given as goal

abbrev pub invariant-loop-to : goal.invariant-loop-to
invariant-loop-to l = l.row ++ row_from l.table l.callees l.from l.to (l.size - l.to) ≡ row_from l.table l.callees l.from 0 l.size
