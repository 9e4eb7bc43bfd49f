use Rattle.std.proofs.Common.{◌≡◌, length, ◌++◌, ◌&&◌, map}
use Rattle.hull_projection.specs.Minus.{AllFit}
use Rattle.region_sets.specs.Regions.{all_exact, systems}
use Rattle.call_equations.specs.Sides.{sides_tree}
use Rattle.region_translation.specs.Pieces.{piece_in_caller}
use Rattle.region_translation.proofs.caller.by_link.Given as goal

abbrev pub invariant-loop-rest : goal.invariant-loop-rest
invariant-loop-rest l = record {
  exact : (l.exact && all_exact (map (piece_in_caller (sides_tree l.sides) l.link) l.rest)) ≡ all_exact (map (piece_in_caller (sides_tree l.sides) l.link) l.r.pieces);
  same : l.pieces ++ systems (map (piece_in_caller (sides_tree l.sides) l.link) l.rest) ≡ systems (map (piece_in_caller (sides_tree l.sides) l.link) l.r.pieces);
  fits : AllFit l.pieces;
  each : AllFit l.rest;
}

abbrev pub decreases-loop-rest : goal.decreases-loop-rest
decreases-loop-rest l = length l.rest
