use Rattle.std.proofs.Common.{◌≡◌, subst}
use Rattle.std.specs.Prelude.{IfOk}
use Rattle.preconditions.specs.call_translation.Scopes.{ScopeTree}
use Rattle.preconditions.specs.call_translation.Sites.{sites_in}
use Rattle.preconditions.specs.Entry.{entry_of}
use Rattle.module_phases.proofs.ScopeLaws.{scope-same}
use Rattle.module_phases.proofs.holds.entry_with.Goals as goal

pub returns-clause-defined : goal.returns-clause-defined
returns-clause-defined c =
    let v = c.args.view.now in
    subst (λ (s : ScopeTree). IfOk c.entry_from.result (λ r. r ≡ entry_of v.«module».now.main s (sites_in c.args.calls.now))) (scope-same v.«module».now v.symbols.now v.graph.now.untracked) c.entry_from.ensures.defined
