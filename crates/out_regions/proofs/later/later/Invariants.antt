use Rattle.std.proofs.Common.{◌≡◌, ◌++◌, length, map}
use Rattle.hull_projection.specs.Minus.{AllFit}
use Rattle.out_regions.specs.Later.{later_piece}
use Rattle.out_regions.proofs.later.later.Given as goal

abbrev pub invariant-loop-rest : goal.invariant-loop-rest
invariant-loop-rest l = record {
  same : l.pieces ++ map (later_piece l.tracked l.g) l.rest ≡ map (later_piece l.tracked l.g) l.r.pieces;
  fits : AllFit l.pieces;
  each : AllFit l.rest;
}

abbrev pub decreases-loop-rest : goal.decreases-loop-rest
decreases-loop-rest l = length l.rest
