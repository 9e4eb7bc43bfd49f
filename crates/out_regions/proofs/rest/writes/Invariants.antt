use Rattle.std.proofs.Common.{◌≡◌, ◌++◌, length}
use Rattle.in_out_regions.specs.region_sets.Sets.{SetFits}
use Rattle.out_regions.specs.Lists.{writes}
use Rattle.out_regions.proofs.rest.writes.Given as goal

abbrev pub invariant-loop-rest : goal.invariant-loop-rest
invariant-loop-rest l = record {
  same : l.out ++ writes l.rest ≡ writes l.set;
  fits : SetFits l.out;
  each : SetFits l.rest;
}

abbrev pub decreases-loop-rest : goal.decreases-loop-rest
decreases-loop-rest l = length l.rest
