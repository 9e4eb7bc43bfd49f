use Rattle.std.proofs.Common.{◌≡◌, ◌++◌, drop, map}
use Rattle.f77_ast.specs.Plain.{expr_tree, expr_trees}
use Rattle.preconditions.specs.call_translation.Scopes.{scope_tree}
use Rattle.bound_check.specs.References.{all_elements}
use Rattle.bound_check.specs.Judged.{judged_elements}
use Rattle.bound_check.proofs.judged.+judged.Given as goal

abbrev pub invariant-push_subscripts-loop-e : goal.invariant-push_subscripts-loop-e
invariant-push_subscripts-loop-e l = record {
  safe : map expr_tree l.out.safe ++ (judged_elements l.j (all_elements (expr_trees (drop l.e-index l.e-items)) (scope_tree l.j.scope.now.symbols.now l.j.scope.now.tracked.now))).safe ≡ map expr_tree l.fn.out.safe ++ (judged_elements l.j (all_elements (expr_trees l.e-items) (scope_tree l.j.scope.now.symbols.now l.j.scope.now.tracked.now))).safe;
  others : map expr_tree l.out.others ++ (judged_elements l.j (all_elements (expr_trees (drop l.e-index l.e-items)) (scope_tree l.j.scope.now.symbols.now l.j.scope.now.tracked.now))).others ≡ map expr_tree l.fn.out.others ++ (judged_elements l.j (all_elements (expr_trees l.e-items) (scope_tree l.j.scope.now.symbols.now l.j.scope.now.tracked.now))).others;
}
