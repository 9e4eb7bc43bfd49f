use Rattle.std.proofs.Common.{◌≡◌, length}
use Rattle.in_out_regions.specs.Writes.{write_of}
use Rattle.in_out_regions.proofs.writes.write_of.Given as goal

abbrev pub invariant-loop-rest : goal.invariant-loop-rest
invariant-loop-rest l = write_of l.v l.rest ≡ write_of l.v l.fn.set

abbrev pub decreases-loop-rest : goal.decreases-loop-rest
decreases-loop-rest l = length l.rest
