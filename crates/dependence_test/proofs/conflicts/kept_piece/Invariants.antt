use Rattle.std.proofs.Common.{◌≡◌, length}
use Rattle.hull_projection.specs.Minus.{AllFit}
use Rattle.dependence_test.specs.Conflicts.{kept_piece}
use Rattle.dependence_test.proofs.conflicts.kept_piece.Given as goal

abbrev pub invariant-loop-rest : goal.invariant-loop-rest
invariant-loop-rest l = record {
  same : kept_piece l.b l.alike l.s l.rest ≡ kept_piece l.b l.alike l.s l.pieces;
  each : AllFit l.rest;
}

abbrev pub decreases-loop-rest : goal.decreases-loop-rest
decreases-loop-rest l = length l.rest
