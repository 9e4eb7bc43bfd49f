use Rattle.std.proofs.Common.{◌≡◌, length, map}
use Rattle.f77_ast.specs.Symbols.{symbol_tree}
use Rattle.call_graph.specs.Blocks.{symbols_grown}
use Rattle.call_graph.specs.Sizes.{sized}
use Rattle.call_graph.proofs.blocks.add_table.Given as goal

abbrev pub invariant-loop-rest : goal.invariant-loop-rest
invariant-loop-rest l =
    symbols_grown (map symbol_tree l.table) (map symbol_tree l.rest) (sized l.sizes) ≡ symbols_grown (map symbol_tree l.table) (map symbol_tree l.table) (sized l.fn.sizes)

abbrev pub decreases-loop-rest : goal.decreases-loop-rest
decreases-loop-rest l = length l.rest
