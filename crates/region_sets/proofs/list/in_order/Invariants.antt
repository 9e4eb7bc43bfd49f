use Rattle.std.proofs.Common.{◌≡◌, length, ◌≤◌, drop}
use Rattle.region_sets.specs.Lists.{accesses_at, in_order}
use Rattle.region_sets.specs.Settled.{AllFixed}
use Rattle.region_sets.specs.Sets.{SetFits}
use Rattle.transformers.specs.Lists.{transformer_at}
use Rattle.region_sets.proofs.list.in_order.Given as goal

abbrev pub invariant-loop-left : goal.invariant-loop-left
invariant-loop-left l = record {
  within : l.left ≤ length l.ids;
  same : l.set ≡ in_order (transformer_at l.own) (accesses_at l.at) (drop l.left l.ids);
  fits : SetFits l.set;
  fixed : AllFixed l.set;
}

abbrev pub decreases-loop-left : goal.decreases-loop-left
decreases-loop-left l = l.left
