use Rattle.std.proofs.Common.{◌≡◌, length, map}
use Rattle.std.specs.Cmp.Lexicographic.{pointwise}
use Rattle.f77_ast.specs.Symbols.{symbol_tree}
use Rattle.same_values.specs.SymbolTests.{symbol_test}
use Rattle.same_values.proofs.tables.symbols_test.Given as goal

abbrev pub invariant-loop-left : goal.invariant-loop-left
invariant-loop-left l = pointwise symbol_test (map symbol_tree l.left) (map symbol_tree l.right) ≡ pointwise symbol_test (map symbol_tree l.fn.a) (map symbol_tree l.fn.b)

abbrev pub decreases-loop-left : goal.decreases-loop-left
decreases-loop-left l = length l.left
