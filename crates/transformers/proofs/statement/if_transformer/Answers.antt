use Rattle.std.proofs.Common.{◌≡◌, IfOk, subst}
use Rattle.f77_ast.specs.Plain.{expr_tree}
use Rattle.call_translation.specs.transformer_algebra.declared.transformer.Transformer.{Transformer}
use Rattle.call_translation.specs.Scopes.{scope_tree}
use Rattle.transformers.proofs.WhatLaws.{if_does-made}
use Rattle.transformers.proofs.statement.if_transformer.Goals as goal

pub returns-clause-defined : goal.returns-clause-defined
returns-clause-defined c =
    let P : Transformer → Type 0 = λ x. IfOk c.one_of.result (λ t. t ≡ x) in
    let m = scope_tree c.args.scope.now.symbols.now c.args.scope.now.tracked.now in
    subst P
    (if_does-made m (expr_tree c.args.e.now) c.args.does.now c.identity_transformer.result c.in_ok-done.done c.in_ok-passed.passed
    c.in_ok-condition.condition c.no_rows-before.result c.in_ok-yes.yes c.in_ok-no.no
    c.in_ok-condition.ensures.defined c.no_rows-before.ensures.defined c.in_ok-yes.ensures.defined c.in_ok-no.ensures.defined
    c.identity_transformer.ensures.defined c.in_ok-done.ensures.defined c.in_ok-passed.ensures.defined)
    c.one_of.ensures.defined
