use Rattle.std.proofs.Common.{◌≡◌, ◌++◌, length}
use Rattle.region_translation.specs.region_sets.Sets.{SetFits}
use Rattle.region_translation.specs.call_equations.Sides.{sides_tree}
use Rattle.array_regions.specs.Calls.{all_in_caller}
use Rattle.array_regions.proofs.calls.push_in_caller.Given as goal

abbrev pub invariant-loop-rest : goal.invariant-loop-rest
invariant-loop-rest l = record {
  same : l.out ++ all_in_caller (sides_tree l.call) l.rest ≡ l.fn.out ++ all_in_caller (sides_tree l.call) l.fn.set;
  fits : SetFits l.out;
  each : SetFits l.rest;
}

abbrev pub decreases-loop-rest : goal.decreases-loop-rest
decreases-loop-rest l = length l.rest
