use Rattle.std.proofs.Common.{◌≡◌, map, drop}
use Rattle.affine_systems.specs.Given.{Fits}
use Rattle.transformers.specs.call_translation.Scopes.{scope_tree}
use Rattle.transformers.specs.call_translation.Sites.{site_tree, AllSitesFit}
use Rattle.preconditions.specs.Statement.{hull_from}
use Rattle.preconditions.specs.Entry.{entries_of}
use Rattle.preconditions.proofs.entry.hull_with_sites.Given as goal

abbrev pub invariant-loop-site : goal.invariant-loop-site
invariant-loop-site l = record {
  same : hull_from l.all (entries_of (scope_tree l.scope.symbols.now l.scope.tracked.now) (drop l.site-index l.more)) ≡ hull_from l.fn.first (entries_of (scope_tree l.scope.symbols.now l.scope.tracked.now) l.fn.more);
  gives : Fits l.all;
  fit : AllSitesFit (map site_tree l.more);
}
