use Rattle.std.proofs.Common.{◌≡◌, ◌++◌, reverse, vec_len}
use Rattle.hull_projection.specs.Minus.{AllFit}
use Rattle.region_sets.specs.Trim.{live_pieces}
use Rattle.region_sets.proofs.trimming.live_pieces.Given as goal

abbrev pub invariant-loop-s : goal.invariant-loop-s
invariant-loop-s l = record {
  same : live_pieces l.left.items ++ reverse l.out.items ≡ live_pieces l.fn.pieces;
  fits : AllFit l.out.items;
  each : AllFit l.left.items;
}

abbrev pub decreases-loop-s : goal.decreases-loop-s
decreases-loop-s l = vec_len l.left
