use Rattle.std.proofs.Common.{◌≡◌, ◌++◌, length, map}
use Rattle.pipsmake_rules.specs.Keys.{key_of}
use Rattle.pipsmake_rules.proofs.need.push_kind.Given as goal

abbrev pub invariant-loop-rest : goal.invariant-loop-rest
invariant-loop-rest l = l.found ++ map (key_of l.kind) l.rest ≡ l.fn.found ++ map (key_of l.kind) l.fn.names

abbrev pub decreases-loop-rest : goal.decreases-loop-rest
decreases-loop-rest l = length l.rest
