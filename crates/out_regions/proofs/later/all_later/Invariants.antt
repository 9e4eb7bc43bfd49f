use Rattle.std.proofs.Common.{◌≡◌, ◌++◌, length}
use Rattle.in_out_regions.specs.region_sets.Sets.{SetFits}
use Rattle.out_regions.specs.Later.{all_later}
use Rattle.out_regions.proofs.later.all_later.Given as goal

abbrev pub invariant-loop-rest : goal.invariant-loop-rest
invariant-loop-rest l = record {
  same : l.out ++ all_later l.tracked l.g l.rest ≡ all_later l.tracked l.g l.ins;
  fits : SetFits l.out;
  each : SetFits l.rest;
}

abbrev pub decreases-loop-rest : goal.decreases-loop-rest
decreases-loop-rest l = length l.rest
