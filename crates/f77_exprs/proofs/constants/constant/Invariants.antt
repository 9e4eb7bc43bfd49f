use Rattle.std.proofs.Common.{◌≡◌, length}
use Rattle.f77_exprs.specs.Lexical.{constant, with_front}
use Rattle.f77_exprs.proofs.constants.constant.Given as goal

abbrev pub invariant-loop-rest : goal.invariant-loop-rest
invariant-loop-rest l = with_front l.found (constant l.rest) ≡ constant l.text

abbrev pub decreases-loop-rest : goal.decreases-loop-rest
decreases-loop-rest l = length l.rest
