use Rattle.std.proofs.Common.{◌≡◌, length, ◌++◌, map}
use Rattle.hull_projection.specs.Minus.{AllFit}
use Rattle.transformers.specs.transformer_algebra.Transformers.{without}
use Rattle.region_sets.proofs.any_order.forgetting.Given as goal

abbrev pub invariant-loop-rest : goal.invariant-loop-rest
invariant-loop-rest l = record {
  same : l.pieces ++ map (without l.cells) l.rest ≡ map (without l.cells) l.r.pieces;
  fits : AllFit l.pieces;
  each : AllFit l.rest;
}

abbrev pub decreases-loop-rest : goal.decreases-loop-rest
decreases-loop-rest l = length l.rest
