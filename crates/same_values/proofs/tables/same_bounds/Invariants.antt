use Rattle.std.proofs.Common.{◌≡◌, length, map}
use Rattle.std.specs.Cmp.Lexicographic.{pointwise}
use Rattle.f77_ast.specs.Symbols.{bound_tree}
use Rattle.same_values.specs.SymbolTests.{bound_test}
use Rattle.same_values.proofs.tables.same_bounds.Given as goal

abbrev pub invariant-loop-left : goal.invariant-loop-left
invariant-loop-left l = pointwise bound_test (map bound_tree l.left) (map bound_tree l.right) ≡ pointwise bound_test (map bound_tree l.fn.a) (map bound_tree l.fn.b)

abbrev pub decreases-loop-left : goal.decreases-loop-left
decreases-loop-left l = length l.left
