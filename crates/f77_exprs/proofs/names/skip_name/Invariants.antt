use Rattle.std.proofs.Common.{◌≡◌, length}
use Rattle.f77_exprs.specs.Lexical.{skip_name}
use Rattle.f77_exprs.proofs.names.skip_name.Given as goal

abbrev pub invariant-loop-rest : goal.invariant-loop-rest
invariant-loop-rest l = skip_name l.rest ≡ skip_name l.text

abbrev pub decreases-loop-rest : goal.decreases-loop-rest
decreases-loop-rest l = length l.rest
