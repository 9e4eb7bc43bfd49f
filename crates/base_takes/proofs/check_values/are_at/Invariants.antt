use Rattle.std.proofs.Common.{◌≡◌, length, map}
use Rattle.f77_ast.specs.declared.results.At.{At}
use Rattle.base_takes.proofs.check_values.are_at.Given as goal

abbrev pub invariant-loop-rest : goal.invariant-loop-rest
invariant-loop-rest g l = map (λ (a : At _). a.id) l.rest ≡ l.ids → map (λ (a : At _). a.id) l.fn.at ≡ l.fn.ids

abbrev pub decreases-loop-rest : goal.decreases-loop-rest
decreases-loop-rest g l = length l.rest
