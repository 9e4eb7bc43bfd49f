use Rattle.std.proofs.Common.{◌≡◌, ◌++◌, length}
use Rattle.region_sets.specs.Sets.{SetFits}
use Rattle.region_sets.proofs.sets.push_regions.Given as goal

abbrev pub invariant-loop-rest : goal.invariant-loop-rest
invariant-loop-rest l = record {
  same : l.out ++ l.rest ≡ l.fn.out ++ l.fn.set;
  fits : SetFits l.out;
  each : SetFits l.rest;
}

abbrev pub decreases-loop-rest : goal.decreases-loop-rest
decreases-loop-rest l = length l.rest
