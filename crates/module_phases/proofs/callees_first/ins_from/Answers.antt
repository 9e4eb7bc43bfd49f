use Rattle.std.proofs.Common.{◌≡◌, List, map, ap, ◌∙◌}
use Rattle.std.proofs.lemmas.Result.{IfOk-weaker}
use Rattle.f77_ast.specs.PlainStmt.{stmt_trees}
use Rattle.f77_ast.specs.declared.results.Results.{Results}
use Rattle.f77_ast.specs.Summaries.{summary_in}
use Rattle.preconditions.specs.call_translation.Scopes.{ScopeTree}
use Rattle.in_out_regions.specs.region_sets.declared.region.Region.{Region}
use Rattle.in_out_regions.specs.Modules.{ins_with}
use Rattle.module_phases.specs.ScalarPhases.{scope_of}
use Rattle.module_phases.specs.ScalarViews.{known_in}
use Rattle.module_phases.proofs.ScopeLaws.{scope-same}
use Rattle.module_phases.specs.Callees.{callee_tree, callees_of}
use Rattle.module_phases.specs.Rules.{ins_from}
use Rattle.module_phases.proofs.callees_first.ins_from.Goals as goal
use Rattle.fx_lists.proofs.Numbers.{same_function}

pub returns-clause-defined : goal.returns-clause-defined
returns-clause-defined c =
    let v = c.args.view.now in
    let u = v.graph.now.untracked in
    let b = stmt_trees v.«module».now.body in
    let found = summary_in c.in_ok-summaries.summaries in
    IfOk-weaker c.in_regions.result (λ (r : Results (List Region)). r ≡ _) (λ (r : Results (List Region)). r ≡ ins_from u (known_in v) c.args.own.now c.args.found.now (map callee_tree c.args.callees.now))
    (λ r e. e ∙ (ap (λ (s : ScopeTree). ins_with b s u c.args.own.now.at c.args.found.now.at found) (scope-same v.«module».now v.symbols.now u)
    ∙ ap (ins_with b (scope_of u (known_in v)) u c.args.own.now.at c.args.found.now.at) (same_function found (callees_of (map callee_tree c.args.callees.now)) c.in_ok-summaries.ensures.defined)))
    c.in_regions.ensures.defined
