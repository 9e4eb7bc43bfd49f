use Rattle.std.proofs.Common.{◌≡◌, length}
use Rattle.pipsmake_db.specs.Fresh.{keys_put}
use Rattle.pipsmake_db.proofs.fresh.put_all.Given as goal

abbrev pub invariant-loop-rest : goal.invariant-loop-rest
invariant-loop-rest l = keys_put l.fresh l.rest ≡ keys_put l.fn.fresh l.fn.keys

abbrev pub decreases-loop-rest : goal.decreases-loop-rest
decreases-loop-rest l = length l.rest
