use Rattle.std.proofs.Common.{◌≡◌, ◌++◌, length}
use Rattle.pipsmake_rules.specs.Needs.{by_module}
use Rattle.pipsmake_rules.proofs.need.push_by_module.Given as goal

abbrev pub invariant-loop-rest : goal.invariant-loop-rest
invariant-loop-rest l = l.found ++ by_module l.kinds l.rest ≡ l.fn.found ++ by_module l.kinds l.fn.names

abbrev pub decreases-loop-rest : goal.decreases-loop-rest
decreases-loop-rest l = length l.rest
