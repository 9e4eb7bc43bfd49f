use Rattle.std.proofs.Common.{◌≡◌, ◌++◌, length, map}
use Rattle.preconditions.specs.call_translation.Scopes.{scope_tree}
use Rattle.preconditions.specs.call_translation.Sites.{site_tree}
use Rattle.in_out_regions.specs.region_sets.Sets.{SetFits}
use Rattle.in_out_regions.specs.region_translation.Units.{size_in}
use Rattle.module_phases.specs.OutPhases.{handed_down}
use Rattle.module_phases.specs.OutViews.{AllSitesFit}
use Rattle.module_phases.proofs.handing.all_handed.Given as goal

abbrev pub invariant-loop-rest : goal.invariant-loop-rest
invariant-loop-rest l = record {
  same : l.later ++ handed_down (size_in l.graph.blocks) (scope_tree l.callee.symbols.now l.callee.tracked.now) l.name (map site_tree l.rest) ≡ handed_down (size_in l.graph.blocks) (scope_tree l.callee.symbols.now l.callee.tracked.now) l.name (map site_tree l.sites);
  fits : SetFits l.later;
  each : AllSitesFit (map site_tree l.rest);
}

abbrev pub decreases-loop-rest : goal.decreases-loop-rest
decreases-loop-rest l = length l.rest
