use Rattle.std.proofs.Common.{◌≡◌, length, ◌++◌, map}
use Rattle.hull_projection.specs.Minus.{AllFit}
use Rattle.array_regions.specs.transformer_algebra.Renaming.{push_rows}
use Rattle.in_out_regions.specs.Loops.{index_rows}
use Rattle.in_out_regions.proofs.loops.in_range.Given as goal

abbrev pub invariant-loop-rest : goal.invariant-loop-rest
invariant-loop-rest l = record {
  same : l.pieces ++ map (λ s. push_rows s (index_rows l.tracked l.g)) l.rest ≡ map (λ s. push_rows s (index_rows l.tracked l.g)) l.r.pieces;
  fits : AllFit l.pieces;
  each : AllFit l.rest;
}

abbrev pub decreases-loop-rest : goal.decreases-loop-rest
decreases-loop-rest l = length l.rest
