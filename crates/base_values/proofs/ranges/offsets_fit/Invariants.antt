use Rattle.std.proofs.Common.{length}
use Rattle.base_values.specs.Ranges.{OffsetsFit}
use Rattle.base_values.proofs.ranges.offsets_fit.Given as goal

abbrev pub invariant-loop-rest : goal.invariant-loop-rest
invariant-loop-rest l = OffsetsFit l.rest → OffsetsFit l.fn.units

abbrev pub decreases-loop-rest : goal.decreases-loop-rest
decreases-loop-rest l = length l.rest
