use Rattle.std.proofs.Common.{◌≡◌, ◌++◌, length, map}
use Rattle.hull_projection.specs.Minus.{AllFit}
use Rattle.call_equations.specs.Sides.{sides_tree}
use Rattle.region_translation.specs.CalleePieces.{piece_in_callee}
use Rattle.region_translation.proofs.callee.all_pieces.Given as goal

abbrev pub invariant-loop-rest : goal.invariant-loop-rest
invariant-loop-rest l = record {
  same : l.out ++ map (piece_in_callee (sides_tree l.sides) l.link.moved l.rank l.link.rows) l.rest ≡ map (piece_in_callee (sides_tree l.sides) l.link.moved l.rank l.link.rows) l.pieces;
  fits : AllFit l.out;
  each : AllFit l.rest;
}

abbrev pub decreases-loop-rest : goal.decreases-loop-rest
decreases-loop-rest l = length l.rest
