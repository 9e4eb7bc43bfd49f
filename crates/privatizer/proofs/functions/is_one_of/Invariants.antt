use Rattle.std.proofs.Common.{◌≡◌, length}
use Rattle.privatizer.specs.Functions.{is_one_of}
use Rattle.privatizer.proofs.functions.is_one_of.Given as goal

abbrev pub invariant-loop-rest : goal.invariant-loop-rest
invariant-loop-rest l = is_one_of l.rest l.name ≡ is_one_of l.names l.name

abbrev pub decreases-loop-rest : goal.decreases-loop-rest
decreases-loop-rest l = length l.rest
