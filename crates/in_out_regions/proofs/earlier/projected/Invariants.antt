use Rattle.std.proofs.Common.{◌≡◌, length, ◌++◌, ◌&&◌, map}
use Rattle.hull_projection.specs.Minus.{AllFit}
use Rattle.array_regions.specs.region_sets.Regions.{all_exact, systems}
use Rattle.in_out_regions.specs.Loops.{earlier_piece}
use Rattle.in_out_regions.proofs.earlier.projected.Given as goal

abbrev pub invariant-loop-rest : goal.invariant-loop-rest
invariant-loop-rest l = record {
  exact : (l.exact && all_exact (map (earlier_piece l.g) l.rest)) ≡ all_exact (map (earlier_piece l.g) l.w.pieces);
  same : l.pieces ++ systems (map (earlier_piece l.g) l.rest) ≡ systems (map (earlier_piece l.g) l.w.pieces);
  fits : AllFit l.pieces;
  each : AllFit l.rest;
}

abbrev pub decreases-loop-rest : goal.decreases-loop-rest
decreases-loop-rest l = length l.rest
