use Rattle.std.proofs.Common.{◌≡◌, length, map}
use Rattle.f77_ast.specs.Symbols.{symbol_tree}
use Rattle.tracked_cells.specs.Standing.{two_at}
use Rattle.tracked_cells.proofs.standing.two_at.Given as goal

abbrev pub invariant-loop-rest : goal.invariant-loop-rest
invariant-loop-rest l =
    two_at (map symbol_tree l.table) l.at (map symbol_tree l.rest) ≡ two_at (map symbol_tree l.table) l.at (map symbol_tree l.table)

abbrev pub decreases-loop-rest : goal.decreases-loop-rest
decreases-loop-rest l = length l.rest
