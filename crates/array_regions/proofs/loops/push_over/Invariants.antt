use Rattle.std.proofs.Common.{◌≡◌, ◌++◌, length}
use Rattle.region_translation.specs.region_sets.Sets.{SetFits}
use Rattle.array_regions.specs.Loops.{all_over}
use Rattle.array_regions.proofs.loops.push_over.Given as goal

abbrev pub invariant-loop-rest : goal.invariant-loop-rest
invariant-loop-rest l = record {
  same : l.out ++ all_over l.range l.rest ≡ l.fn.out ++ all_over l.range l.fn.set;
  fits : SetFits l.out;
  each : SetFits l.rest;
}

abbrev pub decreases-loop-rest : goal.decreases-loop-rest
decreases-loop-rest l = length l.rest
