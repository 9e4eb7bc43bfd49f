use Rattle.std.proofs.Common.{◌≡◌, List, map, ap, ◌∙◌}
use Rattle.std.proofs.lemmas.Result.{IfOk-weaker}
use Rattle.f77_ast.specs.PlainStmt.{stmt_trees}
use Rattle.f77_ast.specs.declared.results.Results.{Results}
use Rattle.affine_systems.specs.declared.row.System.{System}
use Rattle.preconditions.specs.call_translation.Scopes.{ScopeTree}
use Rattle.preconditions.specs.Entry.{entry_of}
use Rattle.preconditions.specs.Modules.{preconditions_of}
use Rattle.preconditions.specs.transformers.Lists.{transformer_at}
use Rattle.module_phases.specs.ScalarPhases.{scope_of}
use Rattle.module_phases.specs.ScalarViews.{known_in}
use Rattle.module_phases.proofs.ScopeLaws.{scope-same}
use Rattle.module_phases.specs.Callers.{holds_tree}
use Rattle.module_phases.specs.Rules.{preconditions_from}
use Rattle.module_phases.proofs.callers_first.preconditions_from.Goals as goal

pub returns-clause-defined : goal.returns-clause-defined
returns-clause-defined c =
    let v = c.args.view.now in
    let u = v.graph.now.untracked in
    let b = stmt_trees v.«module».now.body in
    let own = transformer_at c.args.own.now.at in
    IfOk-weaker c.preconditions.result (λ (r : Results System). r ≡ _) (λ (r : Results System). r ≡ preconditions_from u (known_in v) c.args.own.now (map holds_tree c.args.callers.now))
    (λ r e. e ∙ (ap (λ (s : ScopeTree). preconditions_of b s own c.in_ok-entry.entry) (scope-same v.«module».now v.symbols.now u)
    ∙ ap (preconditions_of b (scope_of u (known_in v)) own) (c.in_ok-entry.ensures.defined ∙ ap (entry_of (known_in v).read.main (scope_of u (known_in v))) (c.in_ok-sites.ensures.added (known_in v).read.name))))
    c.preconditions.ensures.defined
