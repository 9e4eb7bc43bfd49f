use Rattle.std.proofs.Common.{◌≡◌, length}
use Rattle.region_translation.specs.Pieces.{are_own}
use Rattle.region_translation.proofs.names.are_own.Given as goal

abbrev pub invariant-loop-rest : goal.invariant-loop-rest
invariant-loop-rest l = are_own l.moved l.rank l.rest ≡ are_own l.moved l.rank l.vars

abbrev pub decreases-loop-rest : goal.decreases-loop-rest
decreases-loop-rest l = length l.rest
