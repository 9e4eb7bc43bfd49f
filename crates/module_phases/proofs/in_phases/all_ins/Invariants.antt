use Rattle.std.proofs.Common.{◌≡◌, ◌++◌, map, reverse, vec_len}
use Rattle.std.specs.Prelude.{All}
use Rattle.f77_ast.specs.Summaries.{summary_in}
use Rattle.in_out_regions.specs.array_regions.Calls.{CalleesFit}
use Rattle.module_phases.specs.RegionPhases.{no_callees}
use Rattle.module_phases.specs.RegionViews.{regions_tree}
use Rattle.module_phases.specs.RegionViews as regions
use Rattle.module_phases.specs.InPhases.{found_in}
use Rattle.module_phases.specs.InViews.{ins_tree, ModuleFits}
use Rattle.module_phases.proofs.in_phases.all_ins.Given as goal

abbrev pub invariant-loop-known : goal.invariant-loop-known
invariant-loop-known l = record {
  same : map ins_tree l.all.items ++ found_in l.graph.untracked (summary_in l.callees) (reverse (map regions_tree l.left.items)) ≡ found_in l.graph.untracked no_callees (map regions_tree l.fn.regions.items);
  callees : CalleesFit (summary_in l.callees);
  left : All regions.ModuleFits l.left.items;
  fit : All ModuleFits l.all.items;
}

abbrev pub decreases-loop-known : goal.decreases-loop-known
decreases-loop-known l = vec_len l.left
