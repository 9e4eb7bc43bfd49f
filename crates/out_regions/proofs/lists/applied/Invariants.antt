use Rattle.std.proofs.Common.{◌≡◌, ◌++◌, length, map}
use Rattle.hull_projection.specs.Minus.{AllFit}
use Rattle.in_out_regions.specs.transformer_algebra.Transformers.{apply}
use Rattle.out_regions.proofs.lists.applied.Given as goal

abbrev pub invariant-loop-rest : goal.invariant-loop-rest
invariant-loop-rest l = record {
  same : l.pieces ++ map (apply l.t) l.rest ≡ map (apply l.t) l.r.pieces;
  fits : AllFit l.pieces;
  each : AllFit l.rest;
}

abbrev pub decreases-loop-rest : goal.decreases-loop-rest
decreases-loop-rest l = length l.rest
