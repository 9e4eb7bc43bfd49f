use Rattle.std.proofs.Common.{◌≡◌, drop, map}
use Rattle.pipsmake_base.specs.loop_marker.Views.{results_tree}
use Rattle.pipsmake_base.specs.pipsmake_meaning.ResultEntries.{results_for}
use Rattle.pips_top.proofs.results.results_for.Given as goal

abbrev pub invariant-loop-results : goal.invariant-loop-results
invariant-loop-results l = results_for (map results_tree (drop l.results-index l.all)) l.name ≡ results_for (map results_tree l.all) l.name
