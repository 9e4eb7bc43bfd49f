use Rattle.std.proofs.Common.{◌≡◌, IfOk, subst}
use Rattle.call_translation.specs.transformer_algebra.declared.transformer.Transformer.{Transformer}
use Rattle.call_translation.specs.transformer_algebra.Transformers.{followed}
use Rattle.transformers.proofs.statement.where_holds.Goals as goal

pub returns-clause-defined : goal.returns-clause-defined
returns-clause-defined c =
    let P : Transformer → Type 0 = λ x. IfOk c.then.result (λ t. t ≡ followed x c.args.does.now) in
    subst P c.test.ensures.defined c.then.ensures.defined
