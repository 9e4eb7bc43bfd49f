use Rattle.std.proofs.Common.{◌≡◌, length}
use Rattle.region_translation.specs.Pieces.{has_other_aux}
use Rattle.region_translation.proofs.putting.has_other_aux.Given as goal

abbrev pub invariant-loop-rest : goal.invariant-loop-rest
invariant-loop-rest l = has_other_aux l.number l.rest ≡ has_other_aux l.number l.fn.terms

abbrev pub decreases-loop-rest : goal.decreases-loop-rest
decreases-loop-rest l = length l.rest
