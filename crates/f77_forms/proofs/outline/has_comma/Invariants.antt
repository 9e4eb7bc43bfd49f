use Rattle.std.proofs.Common.{◌≡◌, ◌<◌, ◌+◌, ◌^◌, length, drop}
use Rattle.f77_forms.specs.Outline.{has_comma}
use Rattle.f77_forms.proofs.outline.has_comma.Given as goal

abbrev pub invariant-loop-c : goal.invariant-loop-c
invariant-loop-c l = record {
  same : has_comma l.outline (drop l.c-index l.text) ≡ has_comma l.fn.start l.text;
  opens : l.outline.opens + length (drop l.c-index l.text) < 2 ^ 63;
  closes : l.outline.closes + length (drop l.c-index l.text) < 2 ^ 63;
}
