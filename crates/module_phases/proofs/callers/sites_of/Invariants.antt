use Rattle.std.proofs.Common.{◌≡◌, ◌++◌, ℕ, List, map, length}
use Rattle.module_phases.specs.ScalarViews.{SitesFit}
use Rattle.module_phases.specs.Callers.{holds_tree, sites_of, AllHold}
use Rattle.module_phases.proofs.callers.sites_of.Given as goal
use Rattle.preconditions.specs.call_translation.NamedSites.{sites_for}

abbrev pub invariant-loop-rest : goal.invariant-loop-rest
invariant-loop-rest l = record {
  same : (x : List ℕ) → sites_for l.sites x ++ sites_of l.graph.untracked (map holds_tree l.rest) x ≡ sites_of l.graph.untracked (map holds_tree l.callers) x;
  fits : SitesFit l.sites;
  each : AllHold l.rest;
}

abbrev pub decreases-loop-rest : goal.decreases-loop-rest
decreases-loop-rest l = length l.rest
