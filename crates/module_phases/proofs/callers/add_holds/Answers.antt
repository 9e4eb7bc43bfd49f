use Rattle.std.proofs.Common.{◌≡◌, ℕ, List, ◌++◌, subst, ◌∙◌}
use Rattle.std.specs.Prelude.{IfOk}
use Rattle.f77_ast.specs.PlainStmt.{stmt_trees}
use Rattle.preconditions.specs.call_translation.Scopes.{ScopeTree}
use Rattle.preconditions.specs.transformers.Lists.{value_at}
use Rattle.module_phases.specs.ScalarPhases.{list_sites}
use Rattle.module_phases.proofs.ScopeLaws.{scope-same}
use Rattle.module_phases.proofs.callers.add_holds.Goals as goal
use Rattle.preconditions.specs.call_translation.NamedSites.{sites_for}

pub returns-clause-added : goal.returns-clause-added
returns-clause-added c =
    let a = c.args.caller.now in
    let same = c.in_ok-scope.ensures ∙ scope-same a.«module».now a.symbols.now c.args.graph.now.untracked in
    subst (λ (m : ScopeTree). IfOk c.add_list.result (λ _. (x : List ℕ) → sites_for c.add_list.new.sites x ≡ sites_for c.args.sites.now x ++ list_sites (stmt_trees a.«module».now.body) (record { scope = m; holds = value_at a.holds.now }) x)) same c.add_list.ensures.added
