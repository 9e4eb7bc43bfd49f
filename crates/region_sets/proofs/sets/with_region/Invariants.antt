use Rattle.std.proofs.Common.{◌≡◌, take}
use Rattle.region_sets.specs.Sets.{SetFits, ComeBefore}
use Rattle.region_sets.proofs.SetSteps.{IsBehind}
use Rattle.region_sets.proofs.sets.with_region.Given as goal

abbrev pub invariant-loop-i : goal.invariant-loop-i
invariant-loop-i l = record {
  same : l.regions.items ≡ l.fn.set;
  behind : IsBehind l.r l.regions.items l.i;
  before : ComeBefore l.r (take l.i l.regions.items);
  fits : SetFits l.regions.items;
}
