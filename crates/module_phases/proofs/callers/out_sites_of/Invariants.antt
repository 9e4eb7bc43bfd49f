use Rattle.std.proofs.Common.{◌≡◌, ◌++◌, ℕ, List, map, length}
use Rattle.module_phases.specs.OutViews.{SitesFit as OutSitesFit}
use Rattle.module_phases.specs.Callers.{outs_tree, out_sites_of, AllOuts}
use Rattle.module_phases.proofs.callers.out_sites_of.Given as goal
use Rattle.preconditions.specs.call_translation.NamedSites.{sites_for}

abbrev pub invariant-loop-rest : goal.invariant-loop-rest
invariant-loop-rest l = record {
  same : (x : List ℕ) → sites_for l.sites x ++ out_sites_of l.graph.untracked (map outs_tree l.rest) x ≡ out_sites_of l.graph.untracked (map outs_tree l.callers) x;
  fits : OutSitesFit l.sites;
  each : AllOuts l.rest;
}

abbrev pub decreases-loop-rest : goal.decreases-loop-rest
decreases-loop-rest l = length l.rest
