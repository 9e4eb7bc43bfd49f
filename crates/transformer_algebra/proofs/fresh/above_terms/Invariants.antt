use Rattle.std.proofs.Common.{◌≡◌, ◌≤◌, ◌^◌, drop}
use Rattle.transformer_algebra.specs.Fresh.{above_terms}
use Rattle.transformer_algebra.proofs.fresh.above_terms.Given as goal

abbrev pub invariant-loop-t : goal.invariant-loop-t
invariant-loop-t l = record { same : above_terms l.least (drop l.t-index l.terms) ≡ above_terms l.fn.least l.fn.terms; below : l.least ≤ 2 ^ 32 }
