use Rattle.std.proofs.Common.{◌≡◌, length, map}
use Rattle.f77_ast.specs.Plain.{expr_trees}
use Rattle.f77_ast.specs.Symbols.{bound_tree}
use Rattle.preconditions.specs.call_translation.Scopes.{scope_tree}
use Rattle.bound_check.specs.Safe.{fits_bounds}
use Rattle.bound_check.proofs.safe.fits_bounds.Given as goal

abbrev pub invariant-loop-rest : goal.invariant-loop-rest
invariant-loop-rest l =
    let k = (scope_tree l.j.scope.now.symbols.now l.j.scope.now.tracked.now).scalars in
    fits_bounds k l.j.changed.now l.j.written.now l.j.holds.now.rows (expr_trees l.rest) (map bound_tree l.limits) ≡ fits_bounds k l.j.changed.now l.j.written.now l.j.holds.now.rows (expr_trees l.fn.subscripts) (map bound_tree l.fn.bounds)

abbrev pub decreases-loop-rest : goal.decreases-loop-rest
decreases-loop-rest l = length l.rest
