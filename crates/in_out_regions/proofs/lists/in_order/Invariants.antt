use Rattle.std.proofs.Common.{◌≡◌, length, ◌≤◌, drop, map}
use Rattle.f77_ast.specs.Symbols.{symbol_tree}
use Rattle.array_regions.specs.transformers.Lists.{transformer_at}
use Rattle.array_regions.specs.region_sets.Sets.{SetFits}
use Rattle.array_regions.specs.region_sets.Settled.{AllFixed}
use Rattle.in_out_regions.specs.Lists.{ins_in_order}
use Rattle.in_out_regions.proofs.lists.in_order.Given as goal
use Rattle.array_regions.specs.region_sets.Lists.{set_at}

abbrev pub invariant-loop-left : goal.invariant-loop-left
invariant-loop-left l = record {
  within : l.left ≤ length l.ids;
  same : l.set ≡ ins_in_order (map symbol_tree l.given.symbols.now) (transformer_at l.given.own.now) (set_at l.given.regions.now) (set_at l.given.ins.now) (drop l.left l.ids);
  fits : SetFits l.set;
  fixed : AllFixed l.set;
}

abbrev pub decreases-loop-left : goal.decreases-loop-left
decreases-loop-left l = l.left
