use Rattle.std.proofs.Common.{◌≡◌, ◌<◌, ◌^◌, drop, map}
use Rattle.f77_ast.specs.Symbols.{bound_tree}
use Rattle.f77_names.specs.Views.{table_tree}
use Rattle.f77_checks.specs.Dimensions.{dims_of}
use Rattle.f77_checks.specs.Sizes.{capped_units}
use Rattle.f77_checks.proofs.dimensions.units_of.Given as goal

abbrev pub invariant-loop-bound : goal.invariant-loop-bound
invariant-loop-bound l = record {
  same : capped_units l.units (dims_of (table_tree l.table) (map bound_tree (drop l.bound-index l.bounds))) ≡ capped_units 1 (dims_of (table_tree l.table) (map bound_tree l.bounds));
  small : l.units < 2 ^ 64;
}
