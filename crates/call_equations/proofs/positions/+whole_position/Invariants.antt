use Rattle.std.proofs.Common.{length}
use Rattle.call_equations.proofs.positions.+whole_position.Given as goal

abbrev pub decreases-whole_position : goal.decreases-whole_position
decreases-whole_position l = length l.bounds.now
