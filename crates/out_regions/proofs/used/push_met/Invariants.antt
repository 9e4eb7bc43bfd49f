use Rattle.std.proofs.Common.{◌≡◌, ◌++◌, length, map}
use Rattle.hull_projection.specs.Minus.{AllFit}
use Rattle.affine_systems.specs.Calls.{meet}
use Rattle.out_regions.proofs.used.push_met.Given as goal

abbrev pub invariant-loop-rest : goal.invariant-loop-rest
invariant-loop-rest l = record {
  same : l.out ++ map (meet l.s) l.rest ≡ l.fn.out ++ map (meet l.s) l.systems;
  fits : AllFit l.out;
  each : AllFit l.rest;
}

abbrev pub decreases-loop-rest : goal.decreases-loop-rest
decreases-loop-rest l = length l.rest
