use Rattle.std.proofs.Common.{◌≡◌, ◌-◌, length}
use Rattle.std.specs.Prelude.{fold}
use Rattle.pipsmake_rules.specs.Needs.{needs_of}
use Rattle.pipsmake_rules.specs.Walk.{walk_from}
use Rattle.pipsmake_rules.proofs.order.+walk_from.Given as goal

abbrev pub decreases-walk_from : goal.decreases-walk_from
decreases-walk_from l = l.depth

abbrev pub invariant-loop-rest : goal.invariant-loop-rest
invariant-loop-rest l =
    fold (λ d n. walk_from (l.depth - 1) l.names l.graph d n) l.listed l.rest ≡ fold (λ d n. walk_from (l.depth - 1) l.names l.graph d n) l.initial.listed (needs_of l.names l.graph l.key)

abbrev pub decreases-loop-rest : goal.decreases-loop-rest
decreases-loop-rest l = length l.rest
