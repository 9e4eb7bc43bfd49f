use Rattle.std.proofs.Common.{◌≡◌, length, ◌++◌}
use Rattle.array_regions.specs.region_sets.Sets.{SetFits}
use Rattle.in_out_regions.specs.Kinds.{all_in}
use Rattle.in_out_regions.proofs.kinds.push_in.Given as goal

abbrev pub invariant-loop-rest : goal.invariant-loop-rest
invariant-loop-rest l = record {
  same : l.out ++ all_in l.rest ≡ l.fn.out ++ all_in l.fn.set;
  fits : SetFits l.out;
  each : SetFits l.rest;
}

abbrev pub decreases-loop-rest : goal.decreases-loop-rest
decreases-loop-rest l = length l.rest
