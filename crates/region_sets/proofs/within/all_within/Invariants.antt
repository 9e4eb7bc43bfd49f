use Rattle.std.proofs.Common.{◌≡◌, length}
use Rattle.hull_projection.specs.Minus.{AllFit}
use Rattle.region_sets.specs.Within.{all_within}
use Rattle.region_sets.proofs.within.all_within.Given as goal

abbrev pub invariant-loop-rest : goal.invariant-loop-rest
invariant-loop-rest l = record {
  same : all_within l.pieces l.rest ≡ all_within l.pieces l.fn.systems;
  each : AllFit l.rest;
}

abbrev pub decreases-loop-rest : goal.decreases-loop-rest
decreases-loop-rest l = length l.rest
