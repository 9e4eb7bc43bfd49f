use Rattle.std.proofs.Common.{◌≡◌, ◌++◌, length, map}
use Rattle.call_graph.specs.Sizes.{entry_block}
use Rattle.call_graph.proofs.blocks.block_list.Given as goal

abbrev pub invariant-loop-rest : goal.invariant-loop-rest
invariant-loop-rest l = l.blocks ++ map entry_block l.rest ≡ map entry_block l.fn.entries

abbrev pub decreases-loop-rest : goal.decreases-loop-rest
decreases-loop-rest l = length l.rest
