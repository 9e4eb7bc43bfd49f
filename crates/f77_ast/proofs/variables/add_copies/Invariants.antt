use Rattle.std.proofs.Common.{◌≡◌, ◌++◌, length}
use Rattle.f77_ast.proofs.variables.add_copies.Given as goal

abbrev pub invariant-loop-rest : goal.invariant-loop-rest
invariant-loop-rest l = l.made ++ l.rest ≡ l.fn.made ++ l.fn.variables

abbrev pub decreases-loop-rest : goal.decreases-loop-rest
decreases-loop-rest l = length l.rest
