use Rattle.std.proofs.Common.{◌≡◌, ◌++◌, length, map}
use Rattle.f77_ast.specs.PlainDecl.{parsed_tree}
use Rattle.f77_ast.specs.Symbols.{symbol_tree}
use Rattle.call_graph.specs.Calls.{all_calls}
use Rattle.call_graph.proofs.calls.all_calls.Given as goal

abbrev pub invariant-loop-rest : goal.invariant-loop-rest
invariant-loop-rest l =
    l.all ++ all_calls (map parsed_tree l.rest) (map (map symbol_tree) l.others) ≡ all_calls (map parsed_tree l.fn.modules) (map (map symbol_tree) l.fn.tables)

abbrev pub decreases-loop-rest : goal.decreases-loop-rest
decreases-loop-rest l = length l.rest
