use Rattle.std.proofs.Common.{◌≡◌, drop}
use Rattle.transformer_algebra.specs.Units.{with_units}
use Rattle.transformer_algebra.proofs.units.add_units.Given as goal

abbrev pub invariant-loop-unit : goal.invariant-loop-unit
invariant-loop-unit l = with_units l.out.items (drop l.unit-index l.units) ≡ with_units l.fn.out.items l.fn.units
