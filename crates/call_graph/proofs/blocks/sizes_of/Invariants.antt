use Rattle.std.proofs.Common.{◌≡◌, length, map}
use Rattle.f77_ast.specs.Symbols.{symbol_tree}
use Rattle.call_graph.specs.Blocks.{tables_grown, blocks_of}
use Rattle.call_graph.specs.Sizes.{sized}
use Rattle.call_graph.proofs.blocks.sizes_of.Given as goal

abbrev pub invariant-loop-rest : goal.invariant-loop-rest
invariant-loop-rest l = tables_grown (map (map symbol_tree) l.rest) (sized l.sizes) ≡ blocks_of (map (map symbol_tree) l.fn.tables)

abbrev pub decreases-loop-rest : goal.decreases-loop-rest
decreases-loop-rest l = length l.rest
