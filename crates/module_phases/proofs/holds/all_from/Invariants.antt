use Rattle.std.proofs.Common.{◌≡◌, ℕ, List, [], map, reverse, vec_len}
use Rattle.std.specs.Prelude.{All}
use Rattle.module_phases.specs.ScalarPhases.{sites_of, analyses_from}
use Rattle.module_phases.specs.ScalarViews.{found_tree, analysis_tree, FoundFits, AnalysisFits, SitesFit}
use Rattle.module_phases.proofs.holds.all_from.Given as goal
use Rattle.preconditions.specs.call_translation.NamedSites.{sites_for}

abbrev pub invariant-loop-found : goal.invariant-loop-found
invariant-loop-found l = record {
  same : analyses_from l.graph.untracked (map analysis_tree l.all.items) (reverse (map found_tree l.left.items)) ≡ analyses_from l.graph.untracked [] (reverse (map found_tree l.fn.left.items));
  sites : (x : List ℕ) → sites_for l.sites x ≡ sites_of l.graph.untracked (map analysis_tree l.all.items) x;
  fits : SitesFit l.sites;
  found : All FoundFits l.left.items;
  gives : All AnalysisFits l.all.items;
}

abbrev pub decreases-loop-found : goal.decreases-loop-found
decreases-loop-found l = vec_len l.left
