use Rattle.std.proofs.Common.{◌≡◌, ◌++◌, drop}
use Rattle.f77_ast.specs.PlainStmt.{arm_trees}
use Rattle.transformers.specs.call_translation.Scopes.{scope_tree}
use Rattle.region_translation.specs.region_sets.Sets.{SetFits}
use Rattle.array_regions.specs.Arms.{ReachedFits, always, tests_reads}
use Rattle.array_regions.proofs.arms.push_tests.Given as goal

abbrev pub invariant-loop-arm : goal.invariant-loop-arm
invariant-loop-arm l = record {
  same : l.out ++ tests_reads (arm_trees (drop l.arm-index l.arm-items)) (scope_tree l.scope.symbols.now l.scope.tracked.now) l.way ≡ l.fn.out ++ tests_reads (arm_trees l.arm-items) (scope_tree l.scope.symbols.now l.scope.tracked.now) always;
  fits : SetFits l.out;
  way : ReachedFits l.way;
}
