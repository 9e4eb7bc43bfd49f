use Rattle.std.proofs.Common.{◌≡◌, ◌++◌, length}
use Rattle.pipsmake_rules.specs.Needs.{by_kind}
use Rattle.pipsmake_rules.proofs.need.push_by_kind.Given as goal

abbrev pub invariant-loop-rest : goal.invariant-loop-rest
invariant-loop-rest l = l.found ++ by_kind l.rest l.names ≡ l.fn.found ++ by_kind l.fn.kinds l.names

abbrev pub decreases-loop-rest : goal.decreases-loop-rest
decreases-loop-rest l = length l.rest
