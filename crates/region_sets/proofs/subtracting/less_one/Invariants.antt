use Rattle.std.proofs.Common.{◌≡◌, length, ◌++◌}
use Rattle.hull_projection.specs.Minus.{AllFit}
use Rattle.region_sets.specs.Subtract.{less_one}
use Rattle.region_sets.proofs.subtracting.less_one.Given as goal

abbrev pub invariant-loop-rest : goal.invariant-loop-rest
invariant-loop-rest l = record {
  same : l.out ++ less_one l.s l.rest ≡ less_one l.s l.fn.pieces;
  fits : AllFit l.out;
  each : AllFit l.rest;
}

abbrev pub decreases-loop-rest : goal.decreases-loop-rest
decreases-loop-rest l = length l.rest
