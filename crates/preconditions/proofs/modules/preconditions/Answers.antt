use Rattle.std.proofs.Common.{◌≡◌, true, List, ap₂, ◌∙◌}
use Rattle.affine_systems.specs.declared.row.System.{System}
use Rattle.f77_ast.specs.PlainStmt.{stmt_trees}
use Rattle.f77_ast.specs.declared.results.At.{At}
use Rattle.f77_ast.specs.declared.results.Results.{Results}
use Rattle.transformers.specs.call_translation.Scopes.{ScopeTree, scope_tree}
use Rattle.transformers.specs.Lists.{transformer_at}
use Rattle.preconditions.specs.Statement.{at_list}
use Rattle.preconditions.proofs.Copies.{system_same}
use Rattle.preconditions.proofs.modules.preconditions.Goals as goal

pub returns-clause-defined : goal.returns-clause-defined
returns-clause-defined c =
    let body = stmt_trees c.args.view.now.module.now.body in
    let scope : List _ → ScopeTree = λ flags. scope_tree c.args.view.now.symbols.now flags in
    let entry : c.in_ok-clone.field-0 ≡ c.args.entry.now = system_same _ _ c.in_ok-clone.ensures.cases in
    let summary : c.in_ok-clone-2.field-0 ≡ c.args.entry.now = system_same _ _ c.in_ok-clone-2.ensures.cases in
    let added : c.after_list.new.at ≡ at_list true body (scope c.in_ok-tracked.tracked) (transformer_at c.args.own.now.at) c.in_ok-clone.field-0 = cc (c.in_ok-after_list.ensures.added, c.new-at.ensures) in
    let kept : c.at-2.inside.items.items ≡ c.after_list.new.at = c.at-2.view_is in
    let make : List (At System) → System → Results System = λ as' s. record { at = as'; summary = s } in
    ap₂ make (kept ∙ added ∙ ap₂ (λ flags s. at_list true body (scope flags) (transformer_at c.args.own.now.at) s) c.in_ok-tracked.ensures entry) summary
