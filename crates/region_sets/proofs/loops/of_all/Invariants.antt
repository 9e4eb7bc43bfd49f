use Rattle.std.proofs.Common.{◌≡◌, length, ◌++◌, ◌&&◌, map}
use Rattle.hull_projection.specs.Minus.{AllFit}
use Rattle.region_sets.specs.Loops.{loop_piece}
use Rattle.region_sets.specs.Regions.{all_exact, systems}
use Rattle.region_sets.proofs.loops.of_all.Given as goal

abbrev pub invariant-loop-rest : goal.invariant-loop-rest
invariant-loop-rest l = record {
  exact : (l.exact && all_exact (map (loop_piece l.g) l.rest)) ≡ all_exact (map (loop_piece l.g) l.r.pieces);
  same : l.pieces ++ systems (map (loop_piece l.g) l.rest) ≡ systems (map (loop_piece l.g) l.r.pieces);
  fits : AllFit l.pieces;
  each : AllFit l.rest;
}

abbrev pub decreases-loop-rest : goal.decreases-loop-rest
decreases-loop-rest l = length l.rest
