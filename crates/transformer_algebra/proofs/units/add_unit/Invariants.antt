use Rattle.std.proofs.Common.{◌≡◌}
use Rattle.transformer_algebra.proofs.ArmSteps.{IsBehind}
use Rattle.transformer_algebra.proofs.units.add_unit.Given as goal

abbrev pub invariant-loop-i : goal.invariant-loop-i
invariant-loop-i l = record { same : l.out.items ≡ l.fn.out.items; behind : IsBehind l.unit l.out.items l.i }
