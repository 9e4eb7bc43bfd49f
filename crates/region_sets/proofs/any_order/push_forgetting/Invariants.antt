use Rattle.std.proofs.Common.{◌≡◌, length, ◌++◌}
use Rattle.region_sets.specs.Lists.{all_forgetting}
use Rattle.region_sets.specs.Sets.{SetFits}
use Rattle.region_sets.proofs.any_order.push_forgetting.Given as goal

abbrev pub invariant-loop-rest : goal.invariant-loop-rest
invariant-loop-rest l = record {
  same : l.out ++ all_forgetting l.cells l.rest ≡ l.fn.out ++ all_forgetting l.cells l.fn.set;
  fits : SetFits l.out;
  each : SetFits l.rest;
}

abbrev pub decreases-loop-rest : goal.decreases-loop-rest
decreases-loop-rest l = length l.rest
