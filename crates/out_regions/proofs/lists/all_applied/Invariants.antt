use Rattle.std.proofs.Common.{◌≡◌, take}
use Rattle.in_out_regions.specs.region_sets.Sets.{SetFits}
use Rattle.out_regions.specs.Lists.{all_applied}
use Rattle.out_regions.proofs.lists.all_applied.Given as goal

abbrev pub invariant-loop-i : goal.invariant-loop-i
invariant-loop-i l = record {
  same : l.out ≡ all_applied l.t (take l.i l.set);
  fits : SetFits l.out;
}
