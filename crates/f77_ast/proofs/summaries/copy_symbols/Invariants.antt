use Rattle.std.proofs.Common.{◌≡◌, take, map}
use Rattle.f77_ast.specs.Symbols.{symbol_tree}
use Rattle.f77_ast.proofs.summaries.copy_symbols.Given as goal

abbrev pub invariant-loop-symbol : goal.invariant-loop-symbol
invariant-loop-symbol l = map symbol_tree l.copies ≡ map symbol_tree (take l.symbol-index l.symbol-items)
