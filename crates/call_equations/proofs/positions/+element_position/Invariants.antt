use Rattle.std.proofs.Common.{length}
use Rattle.call_equations.proofs.positions.+element_position.Given as goal

abbrev pub decreases-element_position : goal.decreases-element_position
decreases-element_position l = length l.bounds.now
