use Rattle.std.proofs.Common.{◌≡◌, ◌<◌, length, vec_len}
use Rattle.hull_projection.specs.Minus.{AllFit}
use Rattle.region_sets.specs.Joining.{three_and_hull}
use Rattle.region_sets.proofs.trimming.hulled.Given as goal

abbrev pub invariant-loop-alloc : goal.invariant-loop-alloc
invariant-loop-alloc l = record {
  same : three_and_hull l.left.items ≡ three_and_hull l.fn.pieces.items;
  many : 3 < length l.left.items;
  fits : AllFit l.left.items;
}

abbrev pub decreases-loop-alloc : goal.decreases-loop-alloc
decreases-loop-alloc l = vec_len l.left
