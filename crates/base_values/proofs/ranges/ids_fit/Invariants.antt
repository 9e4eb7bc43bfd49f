use Rattle.std.proofs.Common.{length}
use Rattle.base_values.specs.Ranges.{IdsFit}
use Rattle.base_values.proofs.ranges.ids_fit.Given as goal

abbrev pub invariant-loop-rest : goal.invariant-loop-rest
invariant-loop-rest g l = IdsFit l.rest → IdsFit l.fn.at

abbrev pub decreases-loop-rest : goal.decreases-loop-rest
decreases-loop-rest g l = length l.rest
