use Rattle.std.proofs.Common.{◌≡◌, ◌++◌, length}
use Rattle.region_translation.specs.region_sets.Sets.{SetFits}
use Rattle.array_regions.specs.Arms.{all_met}
use Rattle.array_regions.proofs.arms.push_met.Given as goal

abbrev pub invariant-loop-rest : goal.invariant-loop-rest
invariant-loop-rest l = record {
  same : l.out ++ all_met l.way l.rest ≡ l.fn.out ++ all_met l.way l.fn.set;
  fits : SetFits l.out;
  each : SetFits l.rest;
}

abbrev pub decreases-loop-rest : goal.decreases-loop-rest
decreases-loop-rest l = length l.rest
