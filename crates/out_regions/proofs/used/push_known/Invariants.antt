use Rattle.std.proofs.Common.{◌≡◌, ◌++◌, length, map}
use Rattle.in_out_regions.specs.region_sets.Sets.{SetFits}
use Rattle.out_regions.specs.Used.{as_out, all_out}
use Rattle.out_regions.proofs.used.push_known.Given as goal

abbrev pub invariant-loop-rest : goal.invariant-loop-rest
invariant-loop-rest l = record {
  same : l.out ++ map as_out l.rest ≡ l.fn.out ++ all_out l.set;
  fits : SetFits l.out;
  each : SetFits l.rest;
}

abbrev pub decreases-loop-rest : goal.decreases-loop-rest
decreases-loop-rest l = length l.rest
