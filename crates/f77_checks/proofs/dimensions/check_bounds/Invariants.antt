use Rattle.std.proofs.Common.{◌≡◌, drop, map}
use Rattle.f77_ast.specs.Symbols.{bound_tree}
use Rattle.f77_names.specs.Views.{table_tree}
use Rattle.f77_checks.specs.Dimensions.{check_bounds}
use Rattle.f77_checks.proofs.dimensions.check_bounds.Given as goal

abbrev pub invariant-loop-bound : goal.invariant-loop-bound
invariant-loop-bound l =
    check_bounds (table_tree l.table) (map bound_tree (drop l.bound-index l.bounds)) l.line l.found ≡ check_bounds (table_tree l.table) (map bound_tree l.bounds) l.line l.initial.found
