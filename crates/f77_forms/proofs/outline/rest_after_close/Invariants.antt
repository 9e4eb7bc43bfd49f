use Rattle.std.proofs.Common.{◌≡◌, ◌<◌, ◌+◌, ◌^◌, length}
use Rattle.f77_forms.specs.Outline.{rest_after_close, front}
use Rattle.f77_forms.proofs.outline.rest_after_close.Given as goal

abbrev pub invariant-loop-rest : goal.invariant-loop-rest
invariant-loop-rest l = record {
  same : rest_after_close l.outline l.rest ≡ rest_after_close front l.text;
  opens : l.outline.opens + length l.rest < 2 ^ 63;
  closes : l.outline.closes + length l.rest < 2 ^ 63;
}

abbrev pub decreases-loop-rest : goal.decreases-loop-rest
decreases-loop-rest l = length l.rest
