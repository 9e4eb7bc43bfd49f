use Rattle.std.proofs.Common.{◌≡◌}
use Rattle.transformer_algebra.proofs.Steps.{IsPassed}
use Rattle.transformer_algebra.proofs.adding.add_term.Given as goal

abbrev pub invariant-loop-i : goal.invariant-loop-i
invariant-loop-i l = record { same : l.out.items ≡ l.fn.out.items; passed : IsPassed l.var l.factor l.out.items l.i }
