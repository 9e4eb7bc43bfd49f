use Rattle.std.proofs.Common.{◌≡◌, ◌++◌, length}
use Rattle.hull_projection.specs.Minus.{AllFit}
use Rattle.out_regions.specs.Used.{each_met}
use Rattle.out_regions.proofs.used.each_met.Given as goal

abbrev pub invariant-loop-rest : goal.invariant-loop-rest
invariant-loop-rest l = record {
  same : l.out ++ each_met l.rest l.systems ≡ each_met l.pieces l.systems;
  fits : AllFit l.out;
  each : AllFit l.rest;
}

abbrev pub decreases-loop-rest : goal.decreases-loop-rest
decreases-loop-rest l = length l.rest
