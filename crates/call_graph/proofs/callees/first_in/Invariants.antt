use Rattle.std.proofs.Common.{◌≡◌, length, map}
use Rattle.f77_ast.specs.PlainDecl.{parsed_tree}
use Rattle.f77_ast.specs.Symbols.{symbol_tree}
use Rattle.call_graph.specs.Callees.{first_in}
use Rattle.call_graph.proofs.callees.first_in.Given as goal

abbrev pub invariant-loop-rest : goal.invariant-loop-rest
invariant-loop-rest l =
    first_in l.rest l.names (map parsed_tree l.modules) (map (map symbol_tree) l.tables) ≡ first_in l.fn.calls l.names (map parsed_tree l.modules) (map (map symbol_tree) l.tables)

abbrev pub decreases-loop-rest : goal.decreases-loop-rest
decreases-loop-rest l = length l.rest
