use Rattle.std.proofs.Common.{◌≡◌, length, map}
use Rattle.f77_ast.specs.Symbols.{symbol_tree}
use Rattle.tracked_cells.specs.Scalars.{with_scalars, keyed}
use Rattle.tracked_cells.proofs.scalars.add_table.Given as goal

abbrev pub invariant-loop-rest : goal.invariant-loop-rest
invariant-loop-rest l =
    with_scalars (map symbol_tree l.rest) (keyed l.units.keys) ≡ with_scalars (map symbol_tree l.table) (keyed l.fn.units.keys)

abbrev pub decreases-loop-rest : goal.decreases-loop-rest
decreases-loop-rest l = length l.rest
