use Rattle.std.proofs.Common.{◌≡◌, ◌++◌, length, map}
use Rattle.affine_systems.specs.Given.{IsGiven}
use Rattle.affine_systems.specs.Rows.{AllRows}
use Rattle.f77_ast.specs.Symbols.{bound_tree, symbol_tree, value_in}
use Rattle.call_equations.specs.Rows.{bounds_rows}
use Rattle.call_equations.proofs.rows.bounds_rows.Given as goal

abbrev pub invariant-loop-rest : goal.invariant-loop-rest
invariant-loop-rest l = record {
  same : l.rows.items ++ bounds_rows (value_in (map symbol_tree l.symbols)) l.k (map bound_tree l.rest) ≡ bounds_rows (value_in (map symbol_tree l.symbols)) 1 (map bound_tree l.bounds);
  fits : AllRows IsGiven l.rows.items;
}

abbrev pub decreases-loop-rest : goal.decreases-loop-rest
decreases-loop-rest l = length l.rest
