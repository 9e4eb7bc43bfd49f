use Rattle.std.proofs.Common.{◌≡◌, ◌++◌, length}
use Rattle.in_out_regions.specs.region_sets.Sets.{SetFits}
use Rattle.in_out_regions.specs.call_equations.Sides.{sides_tree}
use Rattle.in_out_regions.specs.region_translation.Units.{size_in}
use Rattle.module_phases.specs.OutPhases.{handed_each}
use Rattle.module_phases.proofs.handing.push_each.Given as goal

abbrev pub invariant-loop-rest : goal.invariant-loop-rest
invariant-loop-rest l = record {
  same : l.later ++ handed_each (size_in l.graph.blocks) (sides_tree l.sides) l.rest ≡ l.fn.later ++ handed_each (size_in l.graph.blocks) (sides_tree l.sides) l.set;
  fits : SetFits l.later;
  each : SetFits l.rest;
}

abbrev pub decreases-loop-rest : goal.decreases-loop-rest
decreases-loop-rest l = length l.rest
