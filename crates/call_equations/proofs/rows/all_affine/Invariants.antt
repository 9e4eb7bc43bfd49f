use Rattle.std.proofs.Common.{◌≡◌, length, map}
use Rattle.f77_ast.specs.Plain.{expr_trees}
use Rattle.f77_ast.specs.Symbols.{bound_tree}
use Rattle.call_translation.specs.Scopes.{scope_tree}
use Rattle.call_equations.specs.Rows.{all_affine}
use Rattle.call_equations.proofs.rows.all_affine.Given as goal

abbrev pub invariant-loop-left : goal.invariant-loop-left
invariant-loop-left l = all_affine (scope_tree l.scope.symbols.now l.scope.tracked.now) (expr_trees l.left) (map bound_tree l.rest) ≡ all_affine (scope_tree l.scope.symbols.now l.scope.tracked.now) (expr_trees l.es) (map bound_tree l.bounds)

abbrev pub decreases-loop-left : goal.decreases-loop-left
decreases-loop-left l = length l.left
