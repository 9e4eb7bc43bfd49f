use Rattle.std.proofs.Common.{◌≡◌, [], drop}
use Rattle.transformer_algebra.specs.Transformers.{units_from}
use Rattle.transformer_algebra.proofs.arms.all_units.Given as goal

abbrev pub invariant-loop-t : goal.invariant-loop-t
invariant-loop-t l = units_from l.units (drop l.t-index l.arms) ≡ units_from [] l.fn.arms
