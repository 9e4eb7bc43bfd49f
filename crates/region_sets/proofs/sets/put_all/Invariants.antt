use Rattle.std.proofs.Common.{◌≡◌, true, reverse, vec_len}
use Rattle.region_sets.specs.Settled.{AllSettled}
use Rattle.region_sets.specs.Sets.{SetFits, with_regions}
use Rattle.region_sets.proofs.LiveSteps.{StartsAt}
use Rattle.region_sets.proofs.sets.put_all.Given as goal

abbrev pub invariant-loop-r : goal.invariant-loop-r
invariant-loop-r l = record {
  same : with_regions l.set (reverse l.left.items) ≡ with_regions l.fn.set (reverse l.fn.regions.items);
  fits : SetFits l.set;
  each : SetFits l.left.items;
  settled : l.known ≡ true → AllSettled l.left.items;
  before : StartsAt l.left.items l.set l.start;
}

abbrev pub decreases-loop-r : goal.decreases-loop-r
decreases-loop-r l = vec_len l.left
