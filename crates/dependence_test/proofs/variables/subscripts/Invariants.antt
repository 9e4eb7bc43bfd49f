use Rattle.std.proofs.Common.{◌≡◌, ◌++◌, length}
use Rattle.dependence_test.specs.Variables.{subscripts}
use Rattle.dependence_test.proofs.variables.subscripts.Given as goal

abbrev pub invariant-loop-rest : goal.invariant-loop-rest
invariant-loop-rest l = l.out.items ++ subscripts l.rest ≡ subscripts l.vars

abbrev pub decreases-loop-rest : goal.decreases-loop-rest
decreases-loop-rest l = length l.rest
