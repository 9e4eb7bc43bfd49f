use Rattle.std.proofs.Common.{◌≡◌, drop, map}
use Rattle.std.specs.Prelude.{fold}
use Rattle.pipsmake_base.specs.loop_marker.Views.{results_tree}
use Rattle.pips_top.specs.Counts.{counts_of, with_module}
use Rattle.pips_top.proofs.counts.counts_of.Given as goal

abbrev pub invariant-loop-results : goal.invariant-loop-results
invariant-loop-results l = fold with_module l.counts (map results_tree (drop l.results-index l.all)) ≡ counts_of (map results_tree l.all)
