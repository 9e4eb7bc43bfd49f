use Rattle.std.proofs.Common.{◌≡◌, drop}
use Rattle.f77_forms.specs.Words.{rest_after}
use Rattle.f77_forms.proofs.words.rest_after.Given as goal

abbrev pub invariant-loop-w : goal.invariant-loop-w
invariant-loop-w l = rest_after (drop l.w-index l.word) l.rest ≡ rest_after l.word l.text
