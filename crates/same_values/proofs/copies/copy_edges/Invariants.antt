use Rattle.std.proofs.Common.{◌≡◌, ◌++◌, length}
use Rattle.same_values.proofs.copies.copy_edges.Given as goal

abbrev pub invariant-loop-rest : goal.invariant-loop-rest
invariant-loop-rest l = l.copies ++ l.rest ≡ l.edges

abbrev pub decreases-loop-rest : goal.decreases-loop-rest
decreases-loop-rest l = length l.rest
