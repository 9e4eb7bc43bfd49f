use Rattle.std.proofs.Common.{◌≡◌, ◌++◌, length}
use Rattle.pipsmake_rules.specs.Table.{entries}
use Rattle.pipsmake_rules.proofs.table.entries.Given as goal

abbrev pub invariant-loop-rest : goal.invariant-loop-rest
invariant-loop-rest l = l.kinds ++ entries l.kind l.whose l.rest ≡ entries l.kind l.whose l.fn.rules

abbrev pub decreases-loop-rest : goal.decreases-loop-rest
decreases-loop-rest l = length l.rest
