use Rattle.std.proofs.Common.{◌≡◌, ◌++◌, length, map}
use Rattle.f77_ast.specs.Symbols.{symbol_tree}
use Rattle.tracked_cells.specs.Scalars.{keyed}
use Rattle.tracked_cells.specs.Untracked.{untrackable}
use Rattle.tracked_cells.proofs.untrackable.untrackable.Given as goal

abbrev pub invariant-loop-rest : goal.invariant-loop-rest
invariant-loop-rest l =
    l.found ++ untrackable l.names (map (map symbol_tree) l.tables) (keyed l.rest) ≡ untrackable l.names (map (map symbol_tree) l.tables) (keyed l.fn.keys)

abbrev pub decreases-loop-rest : goal.decreases-loop-rest
decreases-loop-rest l = length l.rest
