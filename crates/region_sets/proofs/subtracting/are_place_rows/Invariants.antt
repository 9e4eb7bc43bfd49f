use Rattle.std.proofs.Common.{◌≡◌, length}
use Rattle.region_sets.specs.Subtract.{are_place_rows}
use Rattle.region_sets.proofs.subtracting.are_place_rows.Given as goal

abbrev pub invariant-loop-rest : goal.invariant-loop-rest
invariant-loop-rest l = are_place_rows l.rest ≡ are_place_rows l.fn.rows

abbrev pub decreases-loop-rest : goal.decreases-loop-rest
decreases-loop-rest l = length l.rest
