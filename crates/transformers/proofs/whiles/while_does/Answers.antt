use Rattle.std.proofs.Common.{◌≡◌, IfOk, subst}
use Rattle.call_translation.specs.transformer_algebra.declared.transformer.Transformer.{Transformer}
use Rattle.call_translation.specs.Scopes.{scope_tree}
use Rattle.transformers.proofs.WhileSteps.{while_made}
use Rattle.transformers.proofs.whiles.while_does.Goals as goal

pub returns-clause-defined : goal.returns-clause-defined
returns-clause-defined c =
    let P : Transformer → Type 0 = λ x. IfOk c.then.result (λ t. t ≡ x) in
    let m = scope_tree c.args.scope.now.symbols.now c.args.scope.now.tracked.now in
    subst P
    (while_made m c.args.arm.now c.args.all.now c.in_ok-once.once c.in_ok-any.any c.test.result c.in_ok-condition.condition
    c.in_ok-condition.ensures.defined c.in_ok-once.ensures.defined c.in_ok-any.ensures.defined c.test.ensures.defined)
    c.then.ensures.defined
