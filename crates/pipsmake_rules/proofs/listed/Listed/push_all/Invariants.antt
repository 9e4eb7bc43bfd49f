use Rattle.std.proofs.Common.{◌≡◌, ◌++◌, length}
use Rattle.pipsmake_rules.proofs.listed.Listed.push_all.Given as goal

abbrev pub invariant-loop-rest : goal.invariant-loop-rest
invariant-loop-rest l = l.self ++ l.rest ≡ l.fn.self ++ l.keys

abbrev pub decreases-loop-rest : goal.decreases-loop-rest
decreases-loop-rest l = length l.rest
