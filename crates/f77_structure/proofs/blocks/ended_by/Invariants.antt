use Rattle.std.proofs.Common.{◌≡◌, length}
use Rattle.f77_structure.specs.Blocks.{ended_by}
use Rattle.f77_structure.proofs.blocks.ended_by.Given as goal

abbrev pub invariant-loop-block : goal.invariant-loop-block
invariant-loop-block l = ended_by l.label l.blocks.stack l.blocks ≡ ended_by l.fn.label l.fn.blocks.stack l.fn.blocks

abbrev pub decreases-loop-block : goal.decreases-loop-block
decreases-loop-block l = length l.blocks.stack
