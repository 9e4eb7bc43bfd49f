use Rattle.laws_bounds.proofs.Indexed.{bodies_are_indexed}
use Rattle.laws_bounds.proofs.checks.bodies_are_indexed.Goals as goal

pub returns : goal.returns
returns c = bodies_are_indexed c.bodies_are_shaped.ensures
