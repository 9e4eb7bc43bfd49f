use Rattle.std.proofs.Common.{◌≡◌, length}
use Rattle.pipsmake_rules.specs.Keys.{holds}
use Rattle.pipsmake_rules.proofs.listed.Listed.lists.Given as goal

abbrev pub invariant-loop-rest : goal.invariant-loop-rest
invariant-loop-rest l = holds l.rest (record { kind = l.kind; name = l.name }) ≡ holds l.self (record { kind = l.kind; name = l.name })

abbrev pub decreases-loop-rest : goal.decreases-loop-rest
decreases-loop-rest l = length l.rest
