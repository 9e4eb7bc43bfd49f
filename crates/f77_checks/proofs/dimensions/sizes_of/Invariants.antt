use Rattle.std.proofs.Common.{◌≡◌, drop, map}
use Rattle.f77_ast.specs.Symbols.{bound_tree}
use Rattle.f77_names.specs.Views.{table_tree}
use Rattle.f77_checks.specs.Dimensions.{dims_of}
use Rattle.f77_checks.specs.Sizes.{dims_tree}
use Rattle.f77_checks.proofs.SizeLaws.{behind}
use Rattle.f77_checks.proofs.dimensions.sizes_of.Given as goal

abbrev pub invariant-loop-bound : goal.invariant-loop-bound
invariant-loop-bound l =
    behind (dims_tree l.sizes) (dims_of (table_tree l.table) (map bound_tree (drop l.bound-index l.bounds))) ≡ dims_of (table_tree l.table) (map bound_tree l.bounds)
