use Rattle.std.proofs.Common.{◌≡◌, ◌++◌, length, map}
use Rattle.affine_systems.specs.Given.{IsGiven}
use Rattle.affine_systems.specs.Rows.{AllRows}
use Rattle.f77_ast.specs.Plain.{expr_trees}
use Rattle.f77_ast.specs.Symbols.{bound_tree}
use Rattle.call_translation.specs.Scopes.{scope_tree}
use Rattle.call_equations.specs.Rows.{subscript_rows}
use Rattle.call_equations.proofs.rows.rows_of.Given as goal

abbrev pub invariant-loop-left : goal.invariant-loop-left
invariant-loop-left l = record {
  same : l.rows.items ++ subscript_rows (scope_tree l.scope.symbols.now l.scope.tracked.now) l.k (expr_trees l.left) (map bound_tree l.rest) ≡ subscript_rows (scope_tree l.scope.symbols.now l.scope.tracked.now) 1 (expr_trees l.es) (map bound_tree l.bounds);
  fits : AllRows IsGiven l.rows.items;
}

abbrev pub decreases-loop-left : goal.decreases-loop-left
decreases-loop-left l = length l.left
