use Rattle.std.proofs.Common.{◌≡◌, IfOk, subst}
use Rattle.call_translation.specs.transformer_algebra.declared.transformer.Transformer.{Transformer}
use Rattle.call_translation.specs.Scopes.{scope_tree}
use Rattle.transformers.proofs.WhileSteps.{labelled_made}
use Rattle.transformers.proofs.statement.labelled_transformer.Goals as goal

pub returns-clause-defined : goal.returns-clause-defined
returns-clause-defined c =
    let P : Transformer → Type 0 = λ x. IfOk c.if_transformer.result (λ t. t ≡ x) in
    let m = scope_tree c.args.scope.now.symbols.now c.args.scope.now.tracked.now in
    subst P (labelled_made m c.args.arm.now c.args.all.now c.in_ok-does.does c.in_ok-does.ensures.defined) c.if_transformer.ensures.defined
