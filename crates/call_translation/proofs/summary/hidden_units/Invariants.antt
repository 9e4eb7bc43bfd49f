use Rattle.std.proofs.Common.{◌≡◌, ◌++◌, length}
use Rattle.call_translation.specs.Call.{call_tree}
use Rattle.call_translation.specs.Summary.{hidden_units}
use Rattle.call_translation.proofs.summary.hidden_units.Given as goal

abbrev pub invariant-loop-rest : goal.invariant-loop-rest
invariant-loop-rest l = l.hidden.items ++ hidden_units (call_tree l.call) l.rest ≡ hidden_units (call_tree l.call) l.fn.units

abbrev pub decreases-loop-rest : goal.decreases-loop-rest
decreases-loop-rest l = length l.rest
