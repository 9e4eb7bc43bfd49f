use Rattle.std.proofs.Common.{◌≡◌, length}
use Rattle.region_sets.specs.Naming.{in_rows}
use Rattle.region_sets.proofs.naming.in_rows.Given as goal

abbrev pub invariant-loop-rest : goal.invariant-loop-rest
invariant-loop-rest l = in_rows l.v l.rest ≡ in_rows l.v l.fn.rows

abbrev pub decreases-loop-rest : goal.decreases-loop-rest
decreases-loop-rest l = length l.rest
