use Rattle.std.proofs.Common.{◌≡◌, ◌++◌, length}
use Rattle.transformers.proofs.lists.copy_units.Given as goal

abbrev pub invariant-loop-rest : goal.invariant-loop-rest
invariant-loop-rest l = l.out ++ l.rest ≡ l.fn.units

abbrev pub decreases-loop-rest : goal.decreases-loop-rest
decreases-loop-rest l = length l.rest
