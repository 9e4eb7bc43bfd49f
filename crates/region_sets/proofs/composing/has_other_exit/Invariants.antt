use Rattle.std.proofs.Common.{◌≡◌, length}
use Rattle.region_sets.specs.Compose.{has_other_exit}
use Rattle.region_sets.proofs.composing.has_other_exit.Given as goal

abbrev pub invariant-loop-rest : goal.invariant-loop-rest
invariant-loop-rest l = has_other_exit l.cell l.rest ≡ has_other_exit l.cell l.fn.terms

abbrev pub decreases-loop-rest : goal.decreases-loop-rest
decreases-loop-rest l = length l.rest
