use Rattle.std.proofs.Common.{◌≡◌, List, subst, ap, ◌∙◌}
use Rattle.std.specs.Prelude.{IfOk}
use Rattle.std.proofs.lemmas.Result.{IfOk-weaker}
use Rattle.f77_ast.specs.PlainStmt.{stmt_trees}
use Rattle.f77_ast.specs.declared.results.Results.{Results}
use Rattle.preconditions.specs.call_translation.Scopes.{ScopeTree}
use Rattle.module_phases.proofs.ScopeLaws.{scope-same}
use Rattle.in_out_regions.specs.region_sets.declared.region.Region.{Region}
use Rattle.module_phases.specs.InViews.{ins_tree}
use Rattle.out_regions.specs.Modules.{outs_with}
use Rattle.module_phases.specs.OutPhases.{outs_found, name_of}
use Rattle.module_phases.proofs.out_phases.outs_of.Goals as goal
use Rattle.preconditions.specs.call_translation.NamedSites.{sites_for}

pub returns-clause-defined : goal.returns-clause-defined
returns-clause-defined c =
    let k = c.args.known.now in
    let f = k.known.analysis.found in
    let b = stmt_trees f.«module».now.body in
    IfOk-weaker c.out_regions.result (λ (r : Results (List Region)). r ≡ _) (λ (r : Results (List Region)). r ≡ outs_found c.args.graph.now (sites_for c.args.sites.now (name_of (ins_tree k))) (ins_tree k))
    (λ r e. e ∙ (ap (λ (s : ScopeTree). outs_with b s f.own.at k.known.regions.at k.ins.at c.as_slice.result.now) (scope-same f.«module».now f.symbols.now c.args.graph.now.untracked)
    ∙ ap (outs_with b (_) f.own.at k.known.regions.at k.ins.at) (c.as_slice.ensures ∙ c.in_ok-later.ensures.defined)))
    c.out_regions.ensures.defined
