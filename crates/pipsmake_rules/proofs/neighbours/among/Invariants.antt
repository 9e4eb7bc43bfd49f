use Rattle.std.proofs.Common.{◌≡◌, ◌++◌, length}
use Rattle.std.specs.Prelude.{filter}
use Rattle.pipsmake_rules.specs.Neighbours.{has_name}
use Rattle.pipsmake_rules.proofs.neighbours.among.Given as goal

abbrev pub invariant-loop-rest : goal.invariant-loop-rest
invariant-loop-rest l = l.found ++ filter (has_name l.others) l.rest ≡ filter (has_name l.others) l.fn.names

abbrev pub decreases-loop-rest : goal.decreases-loop-rest
decreases-loop-rest l = length l.rest
