use Rattle.std.proofs.Common.{◌≡◌, ◌++◌, drop}
use Rattle.f77_ast.specs.Plain.{expr_trees}
use Rattle.transformers.specs.call_translation.Scopes.{scope_tree}
use Rattle.region_translation.specs.region_sets.Sets.{SetFits}
use Rattle.array_regions.specs.Reads.{all_reads}
use Rattle.array_regions.proofs.reads.+reads.Given as goal

abbrev pub invariant-push_all_reads-loop-e : goal.invariant-push_all_reads-loop-e
invariant-push_all_reads-loop-e l = record {
  same : l.out ++ all_reads (expr_trees (drop l.e-index l.e-items)) (scope_tree l.scope.symbols.now l.scope.tracked.now) ≡ l.fn.out ++ all_reads (expr_trees l.e-items) (scope_tree l.scope.symbols.now l.scope.tracked.now);
  fits : SetFits l.out;
}
