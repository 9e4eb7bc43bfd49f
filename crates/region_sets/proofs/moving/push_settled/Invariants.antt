use Rattle.std.proofs.Common.{◌≡◌, ◌++◌, length}
use Rattle.region_sets.specs.Settled.{AllFixed}
use Rattle.region_sets.specs.Lists.{all_composed}
use Rattle.region_sets.specs.Sets.{SetFits}
use Rattle.region_sets.proofs.moving.push_settled.Given as goal

abbrev pub invariant-loop-rest : goal.invariant-loop-rest
invariant-loop-rest l = record {
  same : l.out ++ all_composed l.t l.rest ≡ l.fn.out ++ all_composed l.t l.fn.set;
  fits : SetFits l.out;
  each : SetFits l.rest;
  fixed : AllFixed l.rest;
}

abbrev pub decreases-loop-rest : goal.decreases-loop-rest
decreases-loop-rest l = length l.rest
