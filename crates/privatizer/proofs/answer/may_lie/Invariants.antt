use Rattle.std.proofs.Common.{◌≡◌, length}
use Rattle.in_out_regions.specs.region_sets.Sets.{SetFits}
use Rattle.privatizer.specs.Private.{may_lie}
use Rattle.privatizer.proofs.answer.may_lie.Given as goal

abbrev pub invariant-loop-rest : goal.invariant-loop-rest
invariant-loop-rest l = record {
  same : may_lie l.p l.v l.rest ≡ may_lie l.p l.v l.regions;
  each : SetFits l.rest;
}

abbrev pub decreases-loop-rest : goal.decreases-loop-rest
decreases-loop-rest l = length l.rest
