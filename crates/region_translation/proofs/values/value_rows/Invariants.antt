use Rattle.std.proofs.Common.{◌≡◌, ◌++◌, length, map}
use Rattle.affine_systems.specs.Given.{IsGiven}
use Rattle.affine_systems.specs.Rows.{AllRows}
use Rattle.f77_ast.specs.Symbols.{symbol_tree}
use Rattle.call_equations.specs.Sides.{sides_tree}
use Rattle.region_translation.specs.Values.{value_rows_from, value_rows}
use Rattle.region_translation.proofs.values.value_rows.Given as goal

abbrev pub invariant-loop-rest : goal.invariant-loop-rest
invariant-loop-rest l = record {
  same : l.out.items ++ value_rows_from (sides_tree l.sides) l.rank l.number (map symbol_tree l.rest) ≡ value_rows (sides_tree l.sides) l.rank;
  fits : AllRows IsGiven l.out.items;
}

abbrev pub decreases-loop-rest : goal.decreases-loop-rest
decreases-loop-rest l = length l.rest
