use Rattle.std.proofs.Common.{◌≡◌, ◌++◌, map, reverse, vec_len}
use Rattle.std.specs.Prelude.{All}
use Rattle.f77_ast.specs.Summaries.{summary_in}
use Rattle.module_phases.specs.OutViews.{outs_tree, ModuleFits}
use Rattle.loop_marker.specs.Phases.{no_callees, found_in}
use Rattle.loop_marker.specs.Views.{results_tree, ResultsFit}
use Rattle.loop_marker.proofs.phases.all_marks.Given as goal

abbrev pub invariant-loop-outs : goal.invariant-loop-outs
invariant-loop-outs l = record {
  same : map results_tree l.all.items ++ found_in l.graph.untracked (summary_in l.callees) (reverse (map outs_tree l.left.items)) ≡ found_in l.graph.untracked no_callees (reverse (map outs_tree l.fn.left.items));
  left : All ModuleFits l.left.items;
  fit : All ResultsFit l.all.items;
}

abbrev pub decreases-loop-outs : goal.decreases-loop-outs
decreases-loop-outs l = vec_len l.left
