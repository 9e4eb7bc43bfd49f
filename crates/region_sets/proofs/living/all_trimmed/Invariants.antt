use Rattle.std.proofs.Common.{◌≡◌, ◌++◌, reverse, vec_len}
use Rattle.region_sets.specs.Settled.{AllSettled}
use Rattle.region_sets.specs.Sets.{SetFits, all_trimmed}
use Rattle.region_sets.proofs.living.all_trimmed.Given as goal

abbrev pub invariant-loop-r : goal.invariant-loop-r
invariant-loop-r l = record {
  same : all_trimmed l.left.items ++ reverse l.out.items ≡ all_trimmed l.fn.set;
  fits : SetFits l.out.items;
  each : SetFits l.left.items;
  settled : AllSettled l.left.items;
}

abbrev pub decreases-loop-r : goal.decreases-loop-r
decreases-loop-r l = vec_len l.left
