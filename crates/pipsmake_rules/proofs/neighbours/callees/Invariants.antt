use Rattle.std.proofs.Common.{◌≡◌, [], length}
use Rattle.pipsmake_rules.specs.Neighbours.{callees_from}
use Rattle.pipsmake_rules.proofs.neighbours.callees.Given as goal

abbrev pub invariant-loop-rest : goal.invariant-loop-rest
invariant-loop-rest l = callees_from l.name l.rest l.names ≡ callees_from l.name l.graph.edges []

abbrev pub decreases-loop-rest : goal.decreases-loop-rest
decreases-loop-rest l = length l.rest
