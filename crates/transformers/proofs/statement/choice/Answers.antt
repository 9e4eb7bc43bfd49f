use Rattle.std.proofs.Common.{◌≡◌, IfOk, subst, ◌∙◌}
use Rattle.call_translation.specs.transformer_algebra.declared.transformer.Transformer.{Transformer}
use Rattle.transformers.proofs.WhatLaws.{choice-made}
use Rattle.transformers.proofs.statement.choice.Goals as goal

pub returns-clause-defined : goal.returns-clause-defined
returns-clause-defined c =
    let P : Transformer → Type 0 = λ x. IfOk c.one_of.result (λ t. t ≡ x) in
    subst P
    (choice-made c.args.tried.all.items c.as_slice.result.now c.args.tried.before c.args.other.now c.in_ok-t.t
    c.in_ok-t.ensures.defined
    (c.as_slice.ensures.value ∙ c.in_ok-push_transformer.ensures.items))
    c.one_of.ensures.defined
