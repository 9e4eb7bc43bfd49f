use Rattle.std.proofs.Common.{◌≡◌, IfOk, subst}
use Rattle.call_translation.specs.transformer_algebra.declared.transformer.Transformer.{Transformer}
use Rattle.transformers.proofs.WhatLaws.{parts-made}
use Rattle.transformers.proofs.statement.parts_do.Goals as goal

pub returns-clause-defined : goal.returns-clause-defined
returns-clause-defined c =
    let P : Transformer → Type 0 = λ x. IfOk c.loop_transformer.result (λ t. t ≡ x) in
    subst P (parts-made c.args.l.now c.in_ok-once.once c.in_ok-once.ensures.defined) c.loop_transformer.ensures.defined
