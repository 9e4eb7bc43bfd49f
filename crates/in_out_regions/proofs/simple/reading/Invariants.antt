use Rattle.std.proofs.Common.{◌≡◌, ◌≤◌, length, drop}
use Rattle.f77_ast.specs.Plain.{expr_trees}
use Rattle.array_regions.specs.call_translation.Scopes.{scope_tree}
use Rattle.array_regions.specs.region_sets.Sets.{SetFits}
use Rattle.array_regions.specs.region_sets.Settled.{AllFixed}
use Rattle.in_out_regions.specs.Simple.{reading}
use Rattle.in_out_regions.proofs.simple.reading.Given as goal

abbrev pub invariant-loop-left : goal.invariant-loop-left
invariant-loop-left l = record {
  within : l.left ≤ length l.items;
  same : l.set ≡ reading (expr_trees (drop l.left l.items)) (scope_tree l.scope.symbols.now l.scope.tracked.now);
  fits : SetFits l.set;
  fixed : AllFixed l.set;
}

abbrev pub decreases-loop-left : goal.decreases-loop-left
decreases-loop-left l = l.left
