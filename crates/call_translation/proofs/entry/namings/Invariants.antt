use Rattle.std.proofs.Common.{◌≡◌, ◌++◌, drop}
use Rattle.call_translation.specs.Scopes.{scope_tree}
use Rattle.call_translation.specs.Sites.{site_tree}
use Rattle.call_translation.specs.SiteEntry.{names_from}
use Rattle.call_translation.proofs.entry.namings.Given as goal

abbrev pub invariant-loop-v : goal.invariant-loop-v
invariant-loop-v l =
    l.names.items ++ names_from (scope_tree l.callee.symbols.now l.callee.tracked.now) (site_tree l.site) l.aux (drop l.v-index l.vars) ≡ names_from (scope_tree l.callee.symbols.now l.callee.tracked.now) (site_tree l.site) l.fn.first l.fn.vars
