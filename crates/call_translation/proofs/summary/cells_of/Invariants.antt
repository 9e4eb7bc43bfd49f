use Rattle.std.proofs.Common.{◌≡◌, ◌++◌, length}
use Rattle.call_translation.specs.Call.{call_tree}
use Rattle.call_translation.specs.Summary.{cells_of}
use Rattle.call_translation.proofs.summary.cells_of.Given as goal

abbrev pub invariant-loop-rest : goal.invariant-loop-rest
invariant-loop-rest l = l.cells.items ++ cells_of (call_tree l.call) l.rest ≡ cells_of (call_tree l.call) l.fn.changed

abbrev pub decreases-loop-rest : goal.decreases-loop-rest
decreases-loop-rest l = length l.rest
