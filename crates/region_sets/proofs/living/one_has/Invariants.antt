use Rattle.std.proofs.Common.{length}
use Rattle.region_sets.specs.Settled.{AllFixed}
use Rattle.region_sets.proofs.living.one_has.Given as goal

abbrev pub invariant-loop-rest : goal.invariant-loop-rest
invariant-loop-rest l = AllFixed l.rest

abbrev pub decreases-loop-rest : goal.decreases-loop-rest
decreases-loop-rest l = length l.rest
