use Rattle.std.proofs.Common.{◌≡◌, length}
use Rattle.hull_projection.specs.Minus.{AllFit}
use Rattle.dependence_test.specs.Conflicts.{kept_pieces}
use Rattle.dependence_test.proofs.conflicts.kept_pieces.Given as goal

abbrev pub invariant-loop-rest : goal.invariant-loop-rest
invariant-loop-rest l = record {
  same : kept_pieces l.b l.alike l.rest l.later ≡ kept_pieces l.b l.alike l.earlier l.later;
  each : AllFit l.rest;
}

abbrev pub decreases-loop-rest : goal.decreases-loop-rest
decreases-loop-rest l = length l.rest
