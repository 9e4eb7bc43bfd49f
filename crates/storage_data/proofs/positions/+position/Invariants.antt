use Rattle.std.proofs.Common.{length}
use Rattle.storage_data.proofs.positions.+position.Given as goal

abbrev pub decreases-position : goal.decreases-position
decreases-position l = length l.sizes.now
