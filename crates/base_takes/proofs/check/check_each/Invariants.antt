use Rattle.std.proofs.Common.{length}
use Rattle.base_values.specs.Naming.{Each}
use Rattle.base_takes.proofs.check.check_each.Given as goal

abbrev pub invariant-loop-rest : goal.invariant-loop-rest
invariant-loop-rest g l = Each (g.T.Check.fits l.scope) l.rest → Each (g.T.Check.fits l.scope) l.fn.items

abbrev pub decreases-loop-rest : goal.decreases-loop-rest
decreases-loop-rest g l = length l.rest
