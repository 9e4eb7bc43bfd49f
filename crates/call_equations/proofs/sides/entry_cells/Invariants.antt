use Rattle.std.proofs.Common.{◌≡◌, ◌++◌, length, map}
use Rattle.f77_ast.specs.Symbols.{symbol_tree}
use Rattle.call_equations.specs.Sides.{entry_cells}
use Rattle.call_equations.proofs.sides.entry_cells.Given as goal

abbrev pub invariant-loop-rest : goal.invariant-loop-rest
invariant-loop-rest l = l.cells ++ entry_cells l.untracked (map symbol_tree l.rest) ≡ entry_cells l.untracked (map symbol_tree l.symbols)

abbrev pub decreases-loop-rest : goal.decreases-loop-rest
decreases-loop-rest l = length l.rest
