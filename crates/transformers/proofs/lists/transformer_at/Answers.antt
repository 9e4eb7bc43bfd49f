use Rattle.std.proofs.Common.{◌≡◌, sym, subst}
use Rattle.std.proofs.lemmas.Result.{IfOk-weaker}
use Rattle.affine_systems.specs.Given.{Fits}
use Rattle.call_translation.specs.transformer_algebra.declared.transformer.Transformer.{Transformer}
use Rattle.transformers.proofs.Steps.{value-fits}
use Rattle.transformers.proofs.lists.transformer_at.Goals as goal

pub returns-in-Some-clause-fits : goal.returns-in-Some-clause-fits
returns-in-Some-clause-fits c =
    let fits : Fits c.in-Some.t.now.system = value-fits c.args.all.now c.args.id c.in-Some.t.now (sym c.in-Some.ensures) c.requires in
    IfOk-weaker c.copy_transformer.result (λ (v : Transformer). v ≡ c.in-Some.t.now) (λ (v : Transformer). Fits v.system) (λ v e. subst (λ (x : Transformer). Fits x.system) (sym e) fits) c.copy_transformer.ensures
