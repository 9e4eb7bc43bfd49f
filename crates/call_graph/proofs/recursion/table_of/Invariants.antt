use Rattle.std.proofs.Common.{◌≡◌, ◌-◌, [], length}
use Rattle.call_graph.specs.Tables.{table_after}
use Rattle.call_graph.proofs.recursion.table_of.Given as goal

abbrev pub invariant-loop-round : goal.invariant-loop-round
invariant-loop-round l = table_after (length l.callees - l._round) l.callees l.table ≡ table_after (length l.callees) l.callees []
