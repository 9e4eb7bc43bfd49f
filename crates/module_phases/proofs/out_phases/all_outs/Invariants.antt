use Rattle.std.proofs.Common.{◌≡◌, ℕ, List, [], map, reverse, vec_len}
use Rattle.std.specs.Prelude.{All}
use Rattle.module_phases.specs.InViews.{ins_tree, ModuleFits as InsFit}
use Rattle.module_phases.specs.OutPhases.{sites_of, outs_from}
use Rattle.module_phases.specs.OutViews.{outs_tree, ModuleFits, SitesFit}
use Rattle.module_phases.proofs.out_phases.all_outs.Given as goal
use Rattle.preconditions.specs.call_translation.NamedSites.{sites_for}

abbrev pub invariant-loop-known : goal.invariant-loop-known
invariant-loop-known l = record {
  same : outs_from l.graph (map outs_tree l.all.items) (reverse (map ins_tree l.left.items)) ≡ outs_from l.graph [] (reverse (map ins_tree l.fn.left.items));
  sites : (x : List ℕ) → sites_for l.sites x ≡ sites_of l.graph.untracked (map outs_tree l.all.items) x;
  fits : SitesFit l.sites;
  known : All InsFit l.left.items;
  gives : All ModuleFits l.all.items;
}

abbrev pub decreases-loop-known : goal.decreases-loop-known
decreases-loop-known l = vec_len l.left
