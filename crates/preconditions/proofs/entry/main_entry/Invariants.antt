use Rattle.std.proofs.Common.{◌≡◌, ◌+◌, ◌++◌, map, drop}
use Rattle.affine_systems.specs.Rows.{AllRows}
use Rattle.affine_systems.specs.Given.{IsGiven}
use Rattle.f77_ast.specs.Symbols.{symbol_tree}
use Rattle.preconditions.specs.Entry.{initial_from}
use Rattle.preconditions.proofs.entry.main_entry.Given as goal

abbrev pub invariant-loop-symbol : goal.invariant-loop-symbol
invariant-loop-symbol l = record {
  rows : l.rows.items ++ initial_from l.scope.tracked.now (l.number + 1) (map symbol_tree (drop l.symbol-index l.symbol-items)) ≡ initial_from l.scope.tracked.now 1 (map symbol_tree l.symbol-items);
  given : AllRows IsGiven l.rows.items;
}
