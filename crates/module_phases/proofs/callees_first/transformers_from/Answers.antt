use Rattle.std.proofs.Common.{◌≡◌, List, map, ap, ◌∙◌}
use Rattle.std.proofs.lemmas.Result.{IfOk-weaker}
use Rattle.f77_ast.specs.PlainStmt.{stmt_trees}
use Rattle.f77_ast.specs.declared.results.Results.{Results}
use Rattle.f77_ast.specs.Summaries.{summary_in}
use Rattle.preconditions.specs.call_translation.Scopes.{ScopeTree}
use Rattle.preconditions.specs.transformer_algebra.declared.transformer.Transformer.{Transformer}
use Rattle.preconditions.specs.transformers.Modules.{transformers_of}
use Rattle.module_phases.specs.ScalarPhases.{scope_of}
use Rattle.module_phases.specs.ScalarViews.{known_in}
use Rattle.module_phases.proofs.ScopeLaws.{scope-same}
use Rattle.module_phases.specs.Callees.{callee_tree, callees_of}
use Rattle.module_phases.specs.Rules.{transformers_from}
use Rattle.module_phases.proofs.callees_first.transformers_from.Goals as goal
use Rattle.fx_lists.proofs.Numbers.{same_function}

pub returns-clause-defined : goal.returns-clause-defined
returns-clause-defined c =
    let v = c.args.view.now in
    let u = v.graph.now.untracked in
    let b = stmt_trees v.«module».now.body in
    let found = summary_in c.in_ok-summaries.summaries in
    IfOk-weaker c.transformers.result (λ (r : Results Transformer). r ≡ _) (λ (r : Results Transformer). r ≡ transformers_from u (known_in v) (map callee_tree c.args.callees.now))
    (λ r e. e ∙ (ap (λ (s : ScopeTree). transformers_of b s found) (scope-same v.«module».now v.symbols.now u)
    ∙ ap (transformers_of b (scope_of u (known_in v))) (same_function found (callees_of (map callee_tree c.args.callees.now)) c.in_ok-summaries.ensures.defined)))
    c.transformers.ensures.defined
