use Rattle.std.proofs.Common.{◌≡◌, ◌++◌, length}
use Rattle.region_translation.specs.Pieces.{names_of}
use Rattle.region_translation.proofs.names.names_of.Given as goal

abbrev pub invariant-loop-rest : goal.invariant-loop-rest
invariant-loop-rest l = l.names.items ++ names_of l.moved l.rank l.rest ≡ names_of l.moved l.rank l.vars

abbrev pub decreases-loop-rest : goal.decreases-loop-rest
decreases-loop-rest l = length l.rest
