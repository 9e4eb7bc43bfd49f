use Rattle.std.proofs.Common.{◌≡◌, length, ◌++◌}
use Rattle.region_sets.specs.Lists.{all_inexact}
use Rattle.region_sets.specs.Sets.{SetFits}
use Rattle.region_sets.proofs.any_order.all_inexact.Given as goal

abbrev pub invariant-loop-rest : goal.invariant-loop-rest
invariant-loop-rest l = record {
  same : l.out ++ all_inexact l.rest ≡ all_inexact l.fn.set;
  fits : SetFits l.out;
  each : SetFits l.rest;
}

abbrev pub decreases-loop-rest : goal.decreases-loop-rest
decreases-loop-rest l = length l.rest
