use Rattle.std.proofs.Common.{◌≡◌, ◌++◌, length}
use Rattle.call_translation.specs.Call.{call_tree}
use Rattle.call_translation.specs.Summary.{units_of}
use Rattle.call_translation.proofs.summary.units_of.Given as goal

abbrev pub invariant-loop-rest : goal.invariant-loop-rest
invariant-loop-rest l = l.units.items ++ units_of (call_tree l.call) l.rest ≡ units_of (call_tree l.call) l.fn.changed

abbrev pub decreases-loop-rest : goal.decreases-loop-rest
decreases-loop-rest l = length l.rest
