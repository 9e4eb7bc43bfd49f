use Rattle.std.proofs.Common.{◌≡◌, length}
use Rattle.base_text.specs.Read.{are_small}
use Rattle.base_text.proofs.read.are_small.Given as goal

abbrev pub invariant-loop-rest : goal.invariant-loop-rest
invariant-loop-rest l = are_small l.rest ≡ are_small l.fn.results

abbrev pub decreases-loop-rest : goal.decreases-loop-rest
decreases-loop-rest l = length l.rest
