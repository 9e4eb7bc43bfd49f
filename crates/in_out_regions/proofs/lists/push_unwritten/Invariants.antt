use Rattle.std.proofs.Common.{◌≡◌, length, ◌++◌, true}
use Rattle.array_regions.specs.region_sets.Sets.{SetFits}
use Rattle.array_regions.specs.region_sets.Settled.{AllFixed}
use Rattle.in_out_regions.specs.Lists.{all_unwritten}
use Rattle.in_out_regions.proofs.lists.push_unwritten.Given as goal

abbrev pub invariant-loop-rest : goal.invariant-loop-rest
invariant-loop-rest l = record {
  same : l.out ++ all_unwritten l.writes l.rest ≡ l.fn.out ++ all_unwritten l.writes l.fn.set;
  fits : SetFits l.out;
  each : SetFits l.rest;
  known : l.known ≡ true → AllFixed l.rest;
}

abbrev pub decreases-loop-rest : goal.decreases-loop-rest
decreases-loop-rest l = length l.rest
