use Rattle.std.proofs.Common.{◌≡◌}
use Rattle.hull_projection.specs.Fresh.{aux_from}
use Rattle.hull_projection.proofs.fresh.aux_from.Given as goal

abbrev pub invariant-loop-i : goal.invariant-loop-i
invariant-loop-i l = l.out.items ≡ aux_from l.first l.i
