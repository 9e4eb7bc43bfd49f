use Rattle.std.proofs.Common.{◌≡◌, ◌≤◌, ◌++◌, length, reverse, take}
use Rattle.region_sets.specs.Sets.{SetFits}
use Rattle.region_sets.proofs.sets.copies_reversed.Given as goal

abbrev pub invariant-loop-left : goal.invariant-loop-left
invariant-loop-left l = record {
  within : l.left ≤ length l.regions;
  same : l.out.items ++ reverse (take l.left l.regions) ≡ reverse l.regions;
  fits : SetFits l.out.items;
}

abbrev pub decreases-loop-left : goal.decreases-loop-left
decreases-loop-left l = l.left
