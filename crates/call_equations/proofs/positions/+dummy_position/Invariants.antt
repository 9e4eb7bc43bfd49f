use Rattle.std.proofs.Common.{length}
use Rattle.call_equations.proofs.positions.+dummy_position.Given as goal

abbrev pub decreases-dummy_position : goal.decreases-dummy_position
decreases-dummy_position l = length l.bounds.now
