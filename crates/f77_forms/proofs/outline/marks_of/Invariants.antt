use Rattle.std.proofs.Common.{◌≡◌, ◌<◌, ◌+◌, ◌^◌, length}
use Rattle.f77_forms.specs.Outline.{marks_of, front}
use Rattle.f77_forms.proofs.outline.marks_of.Given as goal

abbrev pub invariant-loop-rest : goal.invariant-loop-rest
invariant-loop-rest l = record {
  same : marks_of l.outline l.rest ≡ marks_of front l.text;
  opens : l.outline.opens + length l.rest < 2 ^ 63;
  closes : l.outline.closes + length l.rest < 2 ^ 63;
}

abbrev pub decreases-loop-rest : goal.decreases-loop-rest
decreases-loop-rest l = length l.rest
