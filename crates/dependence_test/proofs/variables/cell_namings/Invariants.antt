use Rattle.std.proofs.Common.{◌≡◌, ◌+◌, ◌++◌, length}
use Rattle.dependence_test.specs.Variables.{cell_namings}
use Rattle.dependence_test.proofs.variables.cell_namings.Given as goal

abbrev pub invariant-loop-rest : goal.invariant-loop-rest
invariant-loop-rest l = record {
  same : l.out.items ++ cell_namings l.number l.rest ≡ cell_namings l.first l.cells;
  room : l.number + length l.rest ≡ l.first + length l.cells;
}

abbrev pub decreases-loop-rest : goal.decreases-loop-rest
decreases-loop-rest l = length l.rest
