use Rattle.std.proofs.Common.{◌≡◌, ◌++◌, length}
use Rattle.call_translation.specs.Call.{call_tree}
use Rattle.call_translation.specs.Summary.{unit_cells}
use Rattle.call_translation.proofs.summary.unit_cells.Given as goal

abbrev pub invariant-loop-rest : goal.invariant-loop-rest
invariant-loop-rest l = l.cells.items ++ unit_cells (call_tree l.call) l.rest ≡ unit_cells (call_tree l.call) l.fn.units

abbrev pub decreases-loop-rest : goal.decreases-loop-rest
decreases-loop-rest l = length l.rest
