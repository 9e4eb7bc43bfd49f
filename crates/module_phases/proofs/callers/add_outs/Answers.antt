use Rattle.std.proofs.Common.{◌≡◌, ℕ, List, ◌++◌, subst, ◌∙◌}
use Rattle.std.specs.Prelude.{IfOk}
use Rattle.f77_ast.specs.PlainStmt.{stmt_trees}
use Rattle.preconditions.specs.call_translation.Scopes.{ScopeTree}
use Rattle.module_phases.proofs.ScopeLaws.{scope-same}
use Rattle.module_phases.specs.OutPhases.{Caller, list_sites}
use Rattle.module_phases.proofs.callers.add_outs.Goals as goal
use Rattle.in_out_regions.specs.region_sets.Lists.{set_at}
use Rattle.preconditions.specs.call_translation.NamedSites.{sites_for}

pub returns-clause-added : goal.returns-clause-added
returns-clause-added c =
    let a = c.args.caller.now in
    let at : ScopeTree → List ℕ → Caller = λ m cs. record { scope = m; changed = cs; outs = set_at a.outs.now } in
    let P : ScopeTree → List ℕ → Type 0 = λ m cs. IfOk c.add_list.result (λ _. (x : List ℕ) → sites_for c.add_list.new.sites x ≡ sites_for c.args.sites.now x ++ list_sites (stmt_trees a.«module».now.body) (at m cs) x) in
    let same = c.in_ok-scope.ensures ∙ scope-same a.«module».now a.symbols.now c.args.graph.now.untracked in
    subst (P _) c.in_ok-changed.ensures (subst (λ (m : ScopeTree). P m c.in_ok-changed.changed) same c.add_list.ensures.added)
