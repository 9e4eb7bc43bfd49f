use Rattle.std.proofs.Common.{◌≡◌, ◌++◌, length}
use Rattle.region_translation.specs.Names.{turned_names}
use Rattle.region_translation.proofs.names.turned_names.Given as goal

abbrev pub invariant-loop-rest : goal.invariant-loop-rest
invariant-loop-rest l = l.names.items ++ turned_names l.inner l.outer l.rest ≡ turned_names l.inner l.outer l.terms

abbrev pub decreases-loop-rest : goal.decreases-loop-rest
decreases-loop-rest l = length l.rest
