use Rattle.std.proofs.Common.{◌≡◌, ◌++◌, length}
use Rattle.same_values.proofs.copies.copy_spots.Given as goal

abbrev pub invariant-loop-rest : goal.invariant-loop-rest
invariant-loop-rest l = l.copies ++ l.rest ≡ l.spots

abbrev pub decreases-loop-rest : goal.decreases-loop-rest
decreases-loop-rest l = length l.rest
