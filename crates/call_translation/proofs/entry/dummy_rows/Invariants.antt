use Rattle.std.proofs.Common.{◌≡◌, ◌+◌, ◌++◌, map, drop}
use Rattle.affine_systems.specs.Rows.{AllRows}
use Rattle.affine_systems.specs.Given.{IsSmallRow}
use Rattle.f77_ast.specs.Symbols.{symbol_tree}
use Rattle.call_translation.specs.Sites.{site_tree}
use Rattle.call_translation.specs.SiteEntry.{rows_from}
use Rattle.call_translation.proofs.entry.dummy_rows.Given as goal

abbrev pub invariant-loop-symbol : goal.invariant-loop-symbol
invariant-loop-symbol l = record {
  rows : l.rows.items ++ rows_from (site_tree l.site) (l.number + 1) (map symbol_tree (drop l.symbol-index l.symbol-items)) ≡ rows_from (site_tree l.site) 1 (map symbol_tree l.symbol-items);
  small : AllRows IsSmallRow l.rows.items;
}
