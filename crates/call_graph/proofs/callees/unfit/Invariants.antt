use Rattle.std.proofs.Common.{◌≡◌, ◌+◌, ◌≤◌, length, map}
use Rattle.f77_ast.specs.PlainDecl.{parsed_tree}
use Rattle.f77_ast.specs.Symbols.{symbol_tree}
use Rattle.call_graph.specs.Callees.{unfit_from}
use Rattle.call_graph.specs.Modules.{most_modules}
use Rattle.call_graph.proofs.callees.unfit.Given as goal

abbrev pub invariant-loop-rest : goal.invariant-loop-rest
invariant-loop-rest l = record {
  same : unfit_from l.place (map parsed_tree l.rest) l.others l.names (map parsed_tree l.modules) (map (map symbol_tree) l.tables) ≡ unfit_from 0 (map parsed_tree l.fn.modules) l.fn.calls l.names (map parsed_tree l.modules) (map (map symbol_tree) l.tables);
  room : l.place + length l.rest ≤ most_modules;
}

abbrev pub decreases-loop-rest : goal.decreases-loop-rest
decreases-loop-rest l = length l.rest
