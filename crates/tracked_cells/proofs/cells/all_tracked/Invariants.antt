use Rattle.std.proofs.Common.{◌≡◌, ◌++◌, length, map}
use Rattle.f77_ast.specs.Symbols.{symbol_tree}
use Rattle.tracked_cells.specs.Tracked.{is_tracked}
use Rattle.tracked_cells.proofs.cells.all_tracked.Given as goal

abbrev pub invariant-loop-rest : goal.invariant-loop-rest
invariant-loop-rest l =
    l.cells ++ map (is_tracked l.names (map symbol_tree l.symbols) l.untracked) (map symbol_tree l.rest) ≡ map (is_tracked l.names (map symbol_tree l.symbols) l.untracked) (map symbol_tree l.symbols)

abbrev pub decreases-loop-rest : goal.decreases-loop-rest
decreases-loop-rest l = length l.rest
