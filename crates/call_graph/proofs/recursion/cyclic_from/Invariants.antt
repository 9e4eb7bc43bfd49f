use Rattle.std.proofs.Common.{◌≡◌, ◌+◌, ◌≤◌, length, map}
use Rattle.f77_ast.specs.PlainDecl.{parsed_tree}
use Rattle.call_graph.specs.Recursion.{cyclic_from}
use Rattle.call_graph.specs.Tables.{cell}
use Rattle.call_graph.specs.Modules.{most_modules}
use Rattle.call_graph.proofs.recursion.cyclic_from.Given as goal

abbrev pub invariant-loop-rest : goal.invariant-loop-rest
invariant-loop-rest l = record {
  same : cyclic_from (cell l.table) l.caller (map parsed_tree l.rest) l.others l.names ≡ cyclic_from (cell l.table) 0 (map parsed_tree l.fn.modules) l.fn.calls l.names;
  room : l.caller + length l.rest ≤ most_modules;
}

abbrev pub decreases-loop-rest : goal.decreases-loop-rest
decreases-loop-rest l = length l.rest
