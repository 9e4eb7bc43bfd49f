use Rattle.std.proofs.Common.{◌≡◌, length}
use Rattle.transformers.specs.Lists.{first_at}
use Rattle.transformers.proofs.lists.first_at.Given as goal

abbrev pub invariant-loop-rest : goal.invariant-loop-rest
invariant-loop-rest g l = first_at l.id l.rest ≡ first_at l.id l.fn.all

abbrev pub decreases-loop-rest : goal.decreases-loop-rest
decreases-loop-rest g l = length l.rest
