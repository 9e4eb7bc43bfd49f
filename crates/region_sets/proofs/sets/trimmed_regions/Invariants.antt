use Rattle.std.proofs.Common.{◌≡◌, length, ◌++◌, true}
use Rattle.region_sets.specs.Settled.{AllSettled}
use Rattle.region_sets.specs.Sets.{SetFits, all_trimmed}
use Rattle.region_sets.proofs.sets.trimmed_regions.Given as goal

abbrev pub invariant-loop-rest : goal.invariant-loop-rest
invariant-loop-rest l = record {
  same : l.out ++ all_trimmed l.rest ≡ all_trimmed l.fn.regions;
  fits : SetFits l.out;
  settled : AllSettled l.out;
  known : l.fn.known ≡ true → AllSettled l.rest;
  each : SetFits l.rest;
}

abbrev pub decreases-loop-rest : goal.decreases-loop-rest
decreases-loop-rest l = length l.rest
