use Rattle.std.proofs.Common.{◌≡◌, List, map, ap, ◌∙◌}
use Rattle.std.proofs.lemmas.Result.{IfOk-weaker}
use Rattle.f77_ast.specs.PlainStmt.{stmt_trees}
use Rattle.f77_ast.specs.declared.results.Results.{Results}
use Rattle.preconditions.specs.call_translation.Scopes.{ScopeTree}
use Rattle.in_out_regions.specs.region_sets.declared.region.Region.{Region}
use Rattle.out_regions.specs.Modules.{outs_with}
use Rattle.module_phases.specs.OutPhases.{used_after}
use Rattle.module_phases.specs.ScalarPhases.{scope_of}
use Rattle.module_phases.specs.ScalarViews.{known_in}
use Rattle.module_phases.proofs.ScopeLaws.{scope-same}
use Rattle.module_phases.specs.Callers.{outs_tree}
use Rattle.module_phases.specs.Rules.{outs_from}
use Rattle.module_phases.proofs.callers_first.outs_from.Goals as goal

pub returns-clause-defined : goal.returns-clause-defined
returns-clause-defined c =
    let v = c.args.view.now in
    let g = v.graph.now in
    let b = stmt_trees v.«module».now.body in
    let own = c.args.own.now.at in
    let found = c.args.found.now.at in
    let taken = c.args.ins.now.at in
    IfOk-weaker c.out_regions.result (λ (r : Results (List Region)). r ≡ _) (λ (r : Results (List Region)). r ≡ outs_from g (known_in v) c.args.own.now c.args.found.now c.args.ins.now (map outs_tree c.args.callers.now))
    (λ r e. e ∙ (ap (λ (s : ScopeTree). outs_with b s own found taken c.as_slice.result.now) (scope-same v.«module».now v.symbols.now g.untracked)
    ∙ ap (outs_with b (scope_of g.untracked (known_in v)) own found taken) (c.as_slice.ensures ∙ (c.in_ok-later.ensures.defined ∙ ap (used_after g (known_in v)) (c.in_ok-sites.ensures.added (known_in v).read.name)))))
    c.out_regions.ensures.defined
