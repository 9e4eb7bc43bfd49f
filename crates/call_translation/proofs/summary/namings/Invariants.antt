use Rattle.std.proofs.Common.{◌≡◌, ◌+◌, ◌++◌, [], length}
use Rattle.call_translation.specs.Call.{call_tree, names_from}
use Rattle.call_translation.proofs.summary.namings.Given as goal

abbrev pub invariant-loop-rest : goal.invariant-loop-rest
invariant-loop-rest l = record {
  same : l.names.items ++ names_from (call_tree l.call) l.number l.passed_by_reference.items l.rest ≡ names_from (call_tree l.call) l.fn.first [] l.fn.vars;
  room : l.number + length l.rest ≡ l.fn.first + length l.fn.vars;
}

abbrev pub decreases-loop-rest : goal.decreases-loop-rest
decreases-loop-rest l = length l.rest
