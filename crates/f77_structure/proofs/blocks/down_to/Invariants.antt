use Rattle.std.proofs.Common.{◌≡◌, length}
use Rattle.f77_structure.specs.Blocks.{down_to}
use Rattle.f77_structure.proofs.blocks.down_to.Given as goal

abbrev pub invariant-loop-block : goal.invariant-loop-block
invariant-loop-block l = down_to l.sought l.blocks.stack l.blocks ≡ down_to l.fn.sought l.fn.blocks.stack l.fn.blocks

abbrev pub decreases-loop-block : goal.decreases-loop-block
decreases-loop-block l = length l.blocks.stack
