use Rattle.std.proofs.Common.{◌≡◌, ◌++◌, length}
use Rattle.result_store.proofs.copies.push_copies.Given as goal

abbrev pub invariant-loop-rest : goal.invariant-loop-rest
invariant-loop-rest g l = l.out ++ l.rest ≡ l.fn.out ++ l.items

abbrev pub decreases-loop-rest : goal.decreases-loop-rest
decreases-loop-rest g l = length l.rest
