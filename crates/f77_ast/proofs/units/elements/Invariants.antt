use Rattle.std.proofs.Common.{◌≡◌, ◌*◌, ◌-◌, ◌^◌, ◌<◌, min, drop, map}
use Rattle.f77_ast.specs.Symbols.{bound_tree, symbol_tree, value_in}
use Rattle.f77_ast.specs.Units.{bounds_units}
use Rattle.f77_ast.proofs.units.elements.Given as goal

abbrev pub invariant-loop-bound : goal.invariant-loop-bound
invariant-loop-bound l = record {
  same : min (l.units * bounds_units (value_in (map symbol_tree l.symbols)) (map bound_tree (drop l.bound-index l.bounds))) (2 ^ 128 - 1) ≡ min (bounds_units (value_in (map symbol_tree l.symbols)) (map bound_tree l.bounds)) (2 ^ 128 - 1);
  small : l.units < 2 ^ 128;
}
