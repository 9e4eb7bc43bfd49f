use Rattle.std.proofs.Common.{◌≡◌, length}
use Rattle.hull_projection.specs.Minus.{AllFit}
use Rattle.region_sets.specs.Within.{within_one}
use Rattle.region_sets.specs.Joining.{AreAnswers}
use Rattle.region_sets.proofs.within.within_one.Given as goal

abbrev pub invariant-loop-rest : goal.invariant-loop-rest
invariant-loop-rest l = record {
  same : within_one l.rest l.s ≡ within_one l.fn.pieces l.s;
  asked : AreAnswers l.s.rows l.asked.items;
  each : AllFit l.rest;
}

abbrev pub decreases-loop-rest : goal.decreases-loop-rest
decreases-loop-rest l = length l.rest
