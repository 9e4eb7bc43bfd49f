use Rattle.std.proofs.Common.{◌≡◌, length, ◌++◌}
use Rattle.region_sets.specs.Lists.{all_accesses, set_at}
use Rattle.region_sets.specs.Sets.{SetFits}
use Rattle.region_sets.proofs.any_order.all_sets.Given as goal

abbrev pub invariant-loop-rest : goal.invariant-loop-rest
invariant-loop-rest l = record {
  same : l.out ++ all_accesses (set_at l.at) l.rest ≡ all_accesses (set_at l.at) l.ids;
  fits : SetFits l.out;
}

abbrev pub decreases-loop-rest : goal.decreases-loop-rest
decreases-loop-rest l = length l.rest
