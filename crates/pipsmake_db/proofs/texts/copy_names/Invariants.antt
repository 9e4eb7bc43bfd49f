use Rattle.std.proofs.Common.{◌≡◌, ◌++◌, length}
use Rattle.pipsmake_db.proofs.texts.copy_names.Given as goal

abbrev pub invariant-loop-rest : goal.invariant-loop-rest
invariant-loop-rest l = l.copy ++ l.rest ≡ l.fn.names

abbrev pub decreases-loop-rest : goal.decreases-loop-rest
decreases-loop-rest l = length l.rest
