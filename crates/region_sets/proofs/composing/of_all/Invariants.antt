use Rattle.std.proofs.Common.{◌≡◌, length, ◌++◌, ◌&&◌, map}
use Rattle.hull_projection.specs.Minus.{AllFit}
use Rattle.region_sets.specs.Compose.{compose_piece}
use Rattle.region_sets.specs.Regions.{all_exact, systems}
use Rattle.region_sets.proofs.composing.of_all.Given as goal

abbrev pub invariant-loop-rest : goal.invariant-loop-rest
invariant-loop-rest l = record {
  exact : (l.exact && all_exact (map (compose_piece l.t) l.rest)) ≡ all_exact (map (compose_piece l.t) l.r.pieces);
  same : l.pieces ++ systems (map (compose_piece l.t) l.rest) ≡ systems (map (compose_piece l.t) l.r.pieces);
  fits : AllFit l.pieces;
  each : AllFit l.rest;
}

abbrev pub decreases-loop-rest : goal.decreases-loop-rest
decreases-loop-rest l = length l.rest
