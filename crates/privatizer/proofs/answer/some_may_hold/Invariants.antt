use Rattle.std.proofs.Common.{◌≡◌, length}
use Rattle.hull_projection.specs.Minus.{AllFit}
use Rattle.privatizer.specs.Private.{some_may_hold}
use Rattle.privatizer.proofs.answer.some_may_hold.Given as goal

abbrev pub invariant-loop-rest : goal.invariant-loop-rest
invariant-loop-rest l = record {
  same : some_may_hold l.p l.rest ≡ some_may_hold l.p l.pieces;
  each : AllFit l.rest;
}

abbrev pub decreases-loop-rest : goal.decreases-loop-rest
decreases-loop-rest l = length l.rest
