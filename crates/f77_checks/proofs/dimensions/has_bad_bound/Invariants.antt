use Rattle.std.proofs.Common.{◌≡◌, drop, map}
use Rattle.f77_ast.specs.Symbols.{bound_tree}
use Rattle.f77_names.specs.Views.{table_tree}
use Rattle.f77_checks.specs.Dimensions.{has_bad_bound}
use Rattle.f77_checks.proofs.dimensions.has_bad_bound.Given as goal

abbrev pub invariant-loop-place : goal.invariant-loop-place
invariant-loop-place l =
    has_bad_bound (table_tree l.table) l.dummy (map bound_tree (drop l.place l.bounds)) ≡ has_bad_bound (table_tree l.table) l.dummy (map bound_tree l.bounds)
