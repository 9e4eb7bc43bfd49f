use Rattle.std.proofs.Common.{◌≡◌, length}
use Rattle.base_json.proofs.Lists.{after}
use Rattle.base_values.specs.Read.{numbers_of}
use Rattle.base_values.proofs.marks.numbers_of.Given as goal

abbrev pub invariant-loop-rest : goal.invariant-loop-rest
invariant-loop-rest l = after l.numbers (numbers_of l.rest) ≡ numbers_of l.fn.variables

abbrev pub decreases-loop-rest : goal.decreases-loop-rest
decreases-loop-rest l = length l.rest
