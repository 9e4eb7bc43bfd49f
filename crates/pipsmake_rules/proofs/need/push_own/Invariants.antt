use Rattle.std.proofs.Common.{◌≡◌, ◌++◌, length}
use Rattle.pipsmake_rules.specs.Needs.{keys_of}
use Rattle.pipsmake_rules.proofs.need.push_own.Given as goal

abbrev pub invariant-loop-rest : goal.invariant-loop-rest
invariant-loop-rest l = l.found ++ keys_of l.rest l.name ≡ l.fn.found ++ keys_of l.fn.kinds l.name

abbrev pub decreases-loop-rest : goal.decreases-loop-rest
decreases-loop-rest l = length l.rest
