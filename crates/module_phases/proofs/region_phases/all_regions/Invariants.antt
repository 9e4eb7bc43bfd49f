use Rattle.std.proofs.Common.{◌≡◌, ◌++◌, map, reverse, vec_len}
use Rattle.std.specs.Prelude.{All}
use Rattle.f77_ast.specs.Summaries.{summary_in}
use Rattle.module_phases.specs.ScalarViews.{analysis_tree, AnalysisFits}
use Rattle.in_out_regions.specs.array_regions.Calls.{CalleesFit}
use Rattle.module_phases.specs.RegionPhases.{no_callees, found_in}
use Rattle.module_phases.specs.RegionViews.{regions_tree, ModuleFits}
use Rattle.module_phases.proofs.region_phases.all_regions.Given as goal

abbrev pub invariant-loop-analysis : goal.invariant-loop-analysis
invariant-loop-analysis l = record {
  same : map regions_tree l.all.items ++ found_in l.graph.untracked (summary_in l.callees) (reverse (map analysis_tree l.left.items)) ≡ found_in l.graph.untracked no_callees (reverse (map analysis_tree l.fn.left.items));
  callees : CalleesFit (summary_in l.callees);
  left : All AnalysisFits l.left.items;
  fit : All ModuleFits l.all.items;
}

abbrev pub decreases-loop-analysis : goal.decreases-loop-analysis
decreases-loop-analysis l = vec_len l.left
