use Rattle.std.proofs.Common.{◌≡◌, [], length, map}
use Rattle.f77_ast.specs.Symbols.{symbol_tree}
use Rattle.tracked_cells.specs.Scalars.{all_scalars, keyed}
use Rattle.tracked_cells.proofs.scalars.all_scalars.Given as goal

abbrev pub invariant-loop-rest : goal.invariant-loop-rest
invariant-loop-rest l = all_scalars (map (map symbol_tree) l.rest) (keyed l.units.keys) ≡ all_scalars (map (map symbol_tree) l.fn.tables) []

abbrev pub decreases-loop-rest : goal.decreases-loop-rest
decreases-loop-rest l = length l.rest
