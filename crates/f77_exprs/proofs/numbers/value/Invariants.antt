use Rattle.std.proofs.Common.{◌≡◌, ◌≤◌, length}
use Rattle.f77_exprs.specs.Lexical.{value}
use Rattle.f77_exprs.proofs.numbers.value.Given as goal

abbrev pub invariant-loop-rest : goal.invariant-loop-rest
invariant-loop-rest l = record { same : value l.v l.rest ≡ value 0 l.text; bound : l.v ≤ 2147483648 }

abbrev pub decreases-loop-rest : goal.decreases-loop-rest
decreases-loop-rest l = length l.rest
