use Rattle.std.proofs.Common.{◌≡◌, None, length}
use Rattle.std.specs.Prelude.{IfSome}
use Rattle.in_out_regions.specs.region_sets.Regions.{RegionFits}
use Rattle.in_out_regions.specs.region_sets.Sets.{SetFits}
use Rattle.out_regions.specs.Used.{used_joined}
use Rattle.out_regions.proofs.used.used_in.Given as goal

abbrev pub invariant-loop-rest : goal.invariant-loop-rest
invariant-loop-rest l = record {
  same : used_joined l.v l.all l.rest ≡ used_joined l.v None l.later;
  fits : IfSome l.all RegionFits;
  each : SetFits l.rest;
}

abbrev pub decreases-loop-rest : goal.decreases-loop-rest
decreases-loop-rest l = length l.rest
