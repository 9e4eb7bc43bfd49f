use Rattle.std.proofs.Common.{◌≡◌, [], reverse, vec_len}
use Rattle.hull_projection.specs.Minus.{AllFit}
use Rattle.region_sets.specs.Trim.{sifted}
use Rattle.region_sets.proofs.trimming.sifted.Given as goal

abbrev pub invariant-loop-s : goal.invariant-loop-s
invariant-loop-s l = record {
  same : sifted (reverse l.left.items) (reverse l.kept.items) ≡ sifted (reverse l.fn.pieces.items) [];
  fits : AllFit l.kept.items;
  each : AllFit l.left.items;
}

abbrev pub decreases-loop-s : goal.decreases-loop-s
decreases-loop-s l = vec_len l.left
