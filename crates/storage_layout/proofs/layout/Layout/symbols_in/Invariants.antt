use Rattle.std.proofs.Common.{◌≡◌, ◌++◌, drop, map}
use Rattle.f77_ast.specs.Symbols.{symbol_tree}
use Rattle.f77_names.specs.Entries.{entry_tree}
use Rattle.storage_layout.specs.Table.{symbols_from, symbols_in}
use Rattle.storage_layout.specs.Views.{layout_tree}
use Rattle.storage_layout.proofs.layout.Layout.symbols_in.Given as goal

abbrev pub invariant-loop-place : goal.invariant-loop-place
invariant-loop-place l =
    map symbol_tree l.symbols ++ symbols_from (layout_tree l.self) l.place (map entry_tree (drop l.place l.entry-items)) ≡ symbols_in (layout_tree l.self)
