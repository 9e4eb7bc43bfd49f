use Rattle.std.proofs.Common.{◌≡◌, length}
use Rattle.region_translation.specs.Units.{size_in}
use Rattle.region_translation.proofs.blocks.block_size.Given as goal

abbrev pub invariant-loop-rest : goal.invariant-loop-rest
invariant-loop-rest l = size_in l.rest l.name ≡ size_in l.blocks l.name

abbrev pub decreases-loop-rest : goal.decreases-loop-rest
decreases-loop-rest l = length l.rest
