use Rattle.std.proofs.Common.{◌≡◌, length, map}
use Rattle.f77_ast.specs.Symbols.{symbol_tree}
use Rattle.tracked_cells.specs.Untracked.{some_untracks}
use Rattle.tracked_cells.proofs.untrackable.some_untracks.Given as goal

abbrev pub invariant-loop-rest : goal.invariant-loop-rest
invariant-loop-rest l =
    some_untracks l.rest (map (map symbol_tree) l.others) l.at ≡ some_untracks l.fn.names (map (map symbol_tree) l.fn.tables) l.at

abbrev pub decreases-loop-rest : goal.decreases-loop-rest
decreases-loop-rest l = length l.rest
