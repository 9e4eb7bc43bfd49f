use Rattle.std.proofs.Common.{◌≡◌, ℕ, List, ◌++◌, subst, ◌∙◌}
use Rattle.std.specs.Prelude.{IfOk}
use Rattle.f77_ast.specs.PlainStmt.{stmt_trees}
use Rattle.preconditions.specs.call_translation.Scopes.{ScopeTree}
use Rattle.preconditions.specs.transformers.Lists.{value_at}
use Rattle.module_phases.specs.ScalarPhases.{list_sites}
use Rattle.module_phases.proofs.ScopeLaws.{scope-same}
use Rattle.module_phases.proofs.holds.add_sites.Goals as goal
use Rattle.preconditions.specs.call_translation.NamedSites.{sites_for}

pub returns-clause-added : goal.returns-clause-added
returns-clause-added c =
    let f = c.args.analysis.now.found in
    let same = c.in_ok-scope.ensures ∙ scope-same f.«module».now f.symbols.now c.args.graph.now.untracked in
    subst (λ (m : ScopeTree). IfOk c.add_list.result (λ _. (x : List ℕ) → sites_for c.add_list.new.sites x ≡ sites_for c.args.sites.now x ++ list_sites (stmt_trees f.«module».now.body) (record { scope = m; holds = value_at c.args.analysis.now.holds.at }) x)) same c.add_list.ensures.added
