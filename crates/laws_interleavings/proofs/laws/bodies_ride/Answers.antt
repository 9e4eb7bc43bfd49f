use Rattle.laws_interleavings.proofs.Accumulating.Statements.{bodies_ride}
use Rattle.laws_interleavings.proofs.laws.bodies_ride.Goals as goal

pub returns : goal.returns
returns c = bodies_ride
