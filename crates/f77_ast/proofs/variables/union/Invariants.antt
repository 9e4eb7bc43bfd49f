use Rattle.std.proofs.Common.{◌≡◌, ◌++◌, ◌+◌, length}
use Rattle.f77_ast.specs.Variables.{union}
use Rattle.f77_ast.proofs.variables.union.Given as goal

abbrev pub invariant-loop-left : goal.invariant-loop-left
invariant-loop-left l = l.made ++ union l.left l.right ≡ union l.fn.some l.fn.others

abbrev pub decreases-loop-left : goal.decreases-loop-left
decreases-loop-left l = length l.left + length l.right
