use Rattle.std.proofs.Common.{◌≡◌, ◌++◌, length}
use Rattle.hull_projection.specs.Minus.{AllFit}
use Rattle.array_regions.specs.Arms.{met_pieces}
use Rattle.array_regions.proofs.arms.under_tests.Given as goal

abbrev pub invariant-loop-rest : goal.invariant-loop-rest
invariant-loop-rest l = record {
  same : l.pieces ++ met_pieces l.way.system l.rest ≡ met_pieces l.way.system l.r.pieces;
  fits : AllFit l.pieces;
  each : AllFit l.rest;
}

abbrev pub decreases-loop-rest : goal.decreases-loop-rest
decreases-loop-rest l = length l.rest
