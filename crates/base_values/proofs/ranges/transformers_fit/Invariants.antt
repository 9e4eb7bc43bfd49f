use Rattle.std.proofs.Common.{length}
use Rattle.base_values.specs.Ranges.{TransformersFit}
use Rattle.base_values.proofs.ranges.transformers_fit.Given as goal

abbrev pub invariant-loop-rest : goal.invariant-loop-rest
invariant-loop-rest l = TransformersFit l.rest → TransformersFit l.fn.at

abbrev pub decreases-loop-rest : goal.decreases-loop-rest
decreases-loop-rest l = length l.rest
