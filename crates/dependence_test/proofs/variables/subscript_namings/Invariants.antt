use Rattle.std.proofs.Common.{◌≡◌, ◌+◌, ◌++◌, length}
use Rattle.dependence_test.specs.Variables.{subscript_namings}
use Rattle.dependence_test.proofs.variables.subscript_namings.Given as goal

abbrev pub invariant-loop-rest : goal.invariant-loop-rest
invariant-loop-rest l = record {
  same : l.out.items ++ subscript_namings l.number l.rest ≡ subscript_namings l.first l.subscripts;
  room : l.number + length l.rest ≡ l.first + length l.subscripts;
}

abbrev pub decreases-loop-rest : goal.decreases-loop-rest
decreases-loop-rest l = length l.rest
