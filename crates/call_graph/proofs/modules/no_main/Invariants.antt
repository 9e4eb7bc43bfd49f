use Rattle.std.proofs.Common.{◌≡◌, length, map}
use Rattle.f77_ast.specs.PlainDecl.{parsed_tree}
use Rattle.call_graph.specs.Modules.{no_main}
use Rattle.call_graph.proofs.modules.no_main.Given as goal

abbrev pub invariant-loop-rest : goal.invariant-loop-rest
invariant-loop-rest l = no_main (map parsed_tree l.rest) ≡ no_main (map parsed_tree l.fn.modules)

abbrev pub decreases-loop-rest : goal.decreases-loop-rest
decreases-loop-rest l = length l.rest
