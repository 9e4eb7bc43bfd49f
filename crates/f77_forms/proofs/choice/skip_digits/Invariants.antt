use Rattle.std.proofs.Common.{◌≡◌, length}
use Rattle.f77_forms.specs.Choice.{skip_digits}
use Rattle.f77_forms.proofs.choice.skip_digits.Given as goal

abbrev pub invariant-loop-rest : goal.invariant-loop-rest
invariant-loop-rest l = skip_digits l.rest ≡ skip_digits l.text

abbrev pub decreases-loop-rest : goal.decreases-loop-rest
decreases-loop-rest l = length l.rest
