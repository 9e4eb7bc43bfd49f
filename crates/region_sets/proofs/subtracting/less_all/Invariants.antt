use Rattle.std.proofs.Common.{◌≡◌, length}
use Rattle.hull_projection.specs.Minus.{AllFit}
use Rattle.region_sets.specs.Subtract.{less_all}
use Rattle.region_sets.proofs.subtracting.less_all.Given as goal

abbrev pub invariant-loop-rest : goal.invariant-loop-rest
invariant-loop-rest l = record {
  same : less_all l.left l.rest ≡ less_all l.pieces l.fn.systems;
  fits : AllFit l.left;
  each : AllFit l.rest;
}

abbrev pub decreases-loop-rest : goal.decreases-loop-rest
decreases-loop-rest l = length l.rest
