use Rattle.std.proofs.Common.{◌≡◌, ◌++◌, length, map}
use Rattle.f77_ast.specs.Plain.{expr_tree}
use Rattle.tracked_cells.specs.Equivalences.{item_names}
use Rattle.tracked_cells.proofs.equivalences.add_items.Given as goal

abbrev pub invariant-loop-rest : goal.invariant-loop-rest
invariant-loop-rest l = l.names ++ item_names (map expr_tree l.rest) ≡ l.fn.names ++ item_names (map expr_tree l.fn.items)

abbrev pub decreases-loop-rest : goal.decreases-loop-rest
decreases-loop-rest l = length l.rest
